-- None of the places so far has this number.
use Rattle.std.proofs.Common.{◌≢◌, ℕ, ◌<◌, get_or}
use Rattle.group_queue.specs.Places.{PlaceState}
use Rattle.group_queue.proofs.checking.place_of.Given as goal

abbrev pub invariant-loop-at : goal.invariant-loop-at
invariant-loop-at g l = (k : ℕ) (d : PlaceState) → k < l.at → (get_or l.places k d).number ≢ l.number
