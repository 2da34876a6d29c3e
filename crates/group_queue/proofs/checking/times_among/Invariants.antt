-- The places so far are counted.
use Rattle.std.proofs.Common.{◌≡◌, ◌≤◌, ◌*◌, take}
use Rattle.std.specs.Prelude.{sum_by}
use Rattle.dispatch_core.specs.JobRuns.{count_of}
use Rattle.group_queue.specs.Places.{PlaceState}
use Rattle.group_queue.proofs.checking.times_among.Given as goal

abbrev pub invariant-loop-place : goal.invariant-loop-place
invariant-loop-place g l = (l.times ≡ sum_by (λ (place : PlaceState). count_of l.job place.docket.out) (take l.place-index l.places)) × (l.times ≤ 18446744073709551615 * l.place-index)
