-- The places so far are counted.
use Rattle.std.proofs.Common.{◌≤◌, ◌+◌, length, take}
use Rattle.std.specs.Prelude.{sum_by}
use Rattle.group_queue.specs.Places.{PlaceState}
use Rattle.group_queue.specs.Known.{ended}
use Rattle.group_queue.proofs.reserving.ended_in_all.Given as goal

abbrev pub invariant-loop-place : goal.invariant-loop-place
invariant-loop-place g l = l.total ≤ sum_by ended (take l.place-index l.places) + sum_by (λ (p : PlaceState). length p.docket.out) (take l.place-index l.places)
