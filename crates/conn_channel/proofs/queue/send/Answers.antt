use Rattle.conn_channel.proofs.Witnessed.{sends}
use Rattle.conn_channel.proofs.queue.send.Goals as goal

pub send_as-requires-clause-rule : goal.send_as-requires-clause-rule
send_as-requires-clause-rule g c = (sends g.W.Witness.saw _ _ _ _ c.requires.parts c.requires.right c.requires.may g.met.W.LawfulWitness.follows, λ items views h at. tt)
