-- What the docket had settled was given, so the balance stays.
use Rattle.group_queue.proofs.Places.{gathers_any}
use Rattle.group_queue.proofs.group.SharedGroup.gather.Goals as goal

pub invariant_of-place : goal.invariant_of-place
invariant_of-place g c = (gathers_any _ _ _ _ _ _ _ _ c.place.invariant.0 c.gather.ensures.answer, c.place.invariant.1, c.place.invariant.2, c.place.invariant.3)
