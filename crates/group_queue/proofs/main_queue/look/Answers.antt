use Rattle.group_queue.proofs.MainWitnessed.{learns_left}
use Rattle.group_queue.proofs.main_queue.look.Goals as goal

pub learn_as-requires-clause-rule : goal.learn_as-requires-clause-rule
learn_as-requires-clause-rule g c = learns_left g.W.Witness.saw_main _ _
