use Rattle.group_queue.proofs.MainWitnessed.{pops_end, learns_left}
use Rattle.group_queue.proofs.main_queue.pop_left.Goals as goal

pub pop_as-requires-clause-rule : goal.pop_as-requires-clause-rule
pop_as-requires-clause-rule g c = (pops_end g.W.Witness.saw_main _ _ c.requires.ending g.met.W.LawfulWitness.main, learns_left g.W.Witness.saw_main _ _)
