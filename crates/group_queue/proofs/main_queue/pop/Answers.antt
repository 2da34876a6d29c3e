use Rattle.group_queue.proofs.MainWitnessed.{pops_main, learns_main}
use Rattle.group_queue.proofs.main_queue.pop.Goals as goal

pub pop_as-requires-clause-rule : goal.pop_as-requires-clause-rule
pop_as-requires-clause-rule g c = (pops_main g.W.Witness.saw_main _ _ _ c.requires.place c.requires.follows, learns_main g.W.Witness.saw_main _ _)
