use Rattle.group_queue.proofs.MainWitnessed.{pushes_main, learns_main}
use Rattle.group_queue.proofs.main_queue.push.Goals as goal

pub push_as-requires-clause-rule : goal.push_as-requires-clause-rule
push_as-requires-clause-rule g c = (pushes_main g.W.Witness.saw_main _ _ _ _ c.requires.port c.requires.next c.requires.few c.requires.follows, learns_main g.W.Witness.saw_main _ _)
