use Rattle.group_queue.proofs.ReturnsWitnessed.{pushes_seen}
use Rattle.group_queue.proofs.returns_queue.push.Goals as goal

pub push_as-requires-clause-rule : goal.push_as-requires-clause-rule
push_as-requires-clause-rule g c = λ n. pushes_seen g.W.Witness.saw_returns n _ _ _ c.requires.parts c.requires.small c.requires.follows
