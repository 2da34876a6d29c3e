-- So many connections have ended.
use Rattle.local_server.proofs.Closing.{HaveEnded}
use Rattle.local_server.proofs.server.close.Given as goal

abbrev pub invariant-numbers : goal.invariant-numbers
invariant-numbers l = HaveEnded l.number l.initial.supply l.fn.clients l.now l.fn.outputs.items l.outputs.items l.ended l.clients l.supply
