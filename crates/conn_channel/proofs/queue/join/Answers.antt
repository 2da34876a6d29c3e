use Rattle.conn_channel.proofs.Witnessed.{joins}
use Rattle.conn_channel.proofs.queue.join.Goals as goal

pub absorb-requires-clause-rule : goal.absorb-requires-clause-rule
absorb-requires-clause-rule g c = joins g.W.Witness.saw _ _ _ _ c.requires.parts c.requires.no_right g.met.W.LawfulWitness.follows
