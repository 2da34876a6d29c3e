use Rattle.group_queue.proofs.ReturnsWitnessed.{cuts_seen}
use Rattle.group_queue.proofs.returns_queue.cut.Goals as goal

pub another-requires-clause-rule : goal.another-requires-clause-rule
another-requires-clause-rule g c = cuts_seen g.W.Witness.saw_returns _ _ c.requires.parts g.met.W.LawfulWitness.returns
