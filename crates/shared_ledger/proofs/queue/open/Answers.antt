-- The first pass has the ledger in hands, and puts it down.
use Rattle.shared_ledger.proofs.Steps.{starts}
use Rattle.shared_ledger.proofs.Witnessed.{puts_first_seen}
use Rattle.shared_ledger.proofs.queue.open.Goals as goal

pub ruled-requires-clause-rule : goal.ruled-requires-clause-rule
ruled-requires-clause-rule g c = (starts, g.met.W.LawfulLedgerWitness.ledger.opened)

pub try_push_as-requires-clause-rule : goal.try_push_as-requires-clause-rule
try_push_as-requires-clause-rule g c = puts_first_seen g.W.LedgerWitness.saw_ledger _ _ _ _ c.in_ok-queue.ensures.3 c.new.ensures (g.met.W.LawfulLedgerWitness.ledger.givers _)
