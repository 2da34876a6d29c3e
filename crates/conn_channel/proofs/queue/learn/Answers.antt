use Rattle.conn_channel.proofs.Witnessed.{learns}
use Rattle.conn_channel.proofs.queue.learn.Goals as goal

pub learn_as-requires-clause-rule : goal.learn_as-requires-clause-rule
learn_as-requires-clause-rule g c = learns g.W.Witness.saw _ _ c.requires.parts c.requires.right
