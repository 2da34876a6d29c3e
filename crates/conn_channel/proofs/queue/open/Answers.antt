use Rattle.conn_channel.proofs.Witnessed.{begins}
use Rattle.conn_channel.proofs.queue.open.Goals as goal

pub bounded_with-requires-clause-rule : goal.bounded_with-requires-clause-rule
bounded_with-requires-clause-rule g c = begins g.W.Witness.saw g.met.W.LawfulWitness.follows
