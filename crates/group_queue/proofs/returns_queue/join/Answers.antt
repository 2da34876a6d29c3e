use Rattle.group_queue.proofs.ReturnsWitnessed.{joins_seen}
use Rattle.group_queue.proofs.returns_queue.join.Goals as goal

pub absorb-requires-clause-rule : goal.absorb-requires-clause-rule
absorb-requires-clause-rule g c = joins_seen g.W.Witness.saw_returns _ _ _ _ c.requires.parts g.met.W.LawfulWitness.returns
