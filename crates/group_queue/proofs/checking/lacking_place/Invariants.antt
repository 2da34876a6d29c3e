-- The places so far are there.
use Rattle.group_queue.specs.Ends.{place_numbers, HasAll}
use Rattle.group_queue.proofs.checking.lacking_place.Given as goal

abbrev pub invariant-loop-number : goal.invariant-loop-number
invariant-loop-number g l = HasAll l.number (place_numbers l.places)
