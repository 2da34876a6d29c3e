use Rattle.conn_channel.proofs.Witnessed.{cuts}
use Rattle.conn_channel.proofs.queue.cut.Goals as goal

pub another-requires-clause-rule : goal.another-requires-clause-rule
another-requires-clause-rule g c = cuts g.W.Witness.saw _ _ c.requires.parts g.met.W.LawfulWitness.follows
