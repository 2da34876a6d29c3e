use Rattle.group_queue.proofs.MainWitnessed.{joins_main}
use Rattle.group_queue.proofs.main_queue.join.Goals as goal

pub absorb-requires-clause-rule : goal.absorb-requires-clause-rule
absorb-requires-clause-rule g c = joins_main g.W.Witness.saw_main _ _ _ _ c.requires.given g.met.W.LawfulWitness.main
