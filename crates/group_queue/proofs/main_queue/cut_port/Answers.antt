use Rattle.group_queue.proofs.MainWitnessed.{port_cut}
use Rattle.group_queue.proofs.main_queue.cut_port.Goals as goal

pub another-requires-clause-rule : goal.another-requires-clause-rule
another-requires-clause-rule g c = port_cut g.W.Witness.saw_main _ _ c.requires.keeper g.met.W.LawfulWitness.main
