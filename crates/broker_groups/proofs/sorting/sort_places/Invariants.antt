-- The places so far were sorted.
use Rattle.std.specs.Vec.Iter.{into_iter_items}
use Rattle.broker_groups.specs.Sorting.{AreSorted}
use Rattle.broker_groups.specs.Endings.{place_slot, IsPlaceAt}
use Rattle.broker_groups.proofs.sorting.sort_places.Given as goal

abbrev pub invariant-loop-place : goal.invariant-loop-place
invariant-loop-place g l = AreSorted (IsPlaceAt g.B.Broker.group) place_slot 8 l.fn.places.items (into_iter_items l.place-iterator) l.rows.items
