use Rattle.conn_channel.proofs.Witnessed.{receives, looks}
use Rattle.conn_channel.proofs.queue.receive.Goals as goal

pub try_recv_as-requires-clause-rule : goal.try_recv_as-requires-clause-rule
try_recv_as-requires-clause-rule g c = (receives g.W.Witness.saw _ _ c.requires.parts c.requires.may c.requires.follows, looks g.W.Witness.saw _ _)
