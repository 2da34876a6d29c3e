-- The share of the next slot is copied, if there is one.
use Rattle.threaded_broker.proofs.Bound.{one_more, none_more}
use Rattle.threaded_broker.proofs.shares.copy_all.Goals as goal
use Rattle.threaded_broker.proofs.shares.copy_all.Goals.{in-Some+in_ok-copy_of+in_ok-push, in_default}

pub loop-slot-preserved : goal.loop-slot-preserved
loop-slot-preserved c = elim c.match-share.branch [
  | in-Some+in_ok-copy_of+in_ok-push w ↦ cc (one_more c.loop-slot.slot c.args.known.now.shares _ w.in-Some.ensures, w.in_ok-copy_of.ensures, w.in_ok-push.ensures.items)
  | in_default w ↦ cc (none_more c.loop-slot.slot c.args.known.now.shares w.in_default.ensures)
]
