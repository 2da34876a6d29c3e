-- One place more is there.
use Rattle.group_queue.specs.Places.{PlaceState}
use Rattle.group_queue.proofs.Checks.{has_more, present_at}
use Rattle.group_queue.proofs.checking.lacking_place.Goals as goal

pub loop-number-preserved : goal.loop-number-preserved
loop-number-preserved g c = has_more _ _ c.loop-number.invariant (let there = c.in-Some.ensures in present_at (λ (p : PlaceState). p.number) _ _ _ there.0 there.1)
