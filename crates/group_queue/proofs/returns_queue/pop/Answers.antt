use Rattle.group_queue.proofs.ReturnsWitnessed.{pops_seen, learns_seen}
use Rattle.group_queue.proofs.returns_queue.pop.Goals as goal

pub pop_as-requires-clause-rule : goal.pop_as-requires-clause-rule
pop_as-requires-clause-rule g c = (pops_seen g.W.Witness.saw_returns _ _ c.requires.parts c.requires.follows, learns_seen g.W.Witness.saw_returns _ _)
