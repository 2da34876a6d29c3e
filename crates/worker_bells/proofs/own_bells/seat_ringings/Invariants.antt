-- The workers so far have a ringer at the bell.
use Rattle.std.proofs.Common.{◌≡◌, ◌+◌, length}
use Rattle.std.specs.Arc.{arc_value}
use Rattle.std.specs.Vec.Iter.{into_iter_items}
use Rattle.worker_bells.specs.Joining.{AreJoinedBut, HaveRingingsAt}
use Rattle.worker_bells.proofs.own_bells.seat_ringings.Given as goal

abbrev pub invariant-ringers : goal.invariant-ringers
invariant-ringers g l = record {
  count : l.worker + length (into_iter_items l.ringer-iterator) ≡ length l.all;
  joined : AreJoinedBut (arc_value l.fn.bell) l.fn.slot l.fn.all → AreJoinedBut (arc_value l.fn.bell) l.fn.slot l.all;
  have : HaveRingingsAt (arc_value l.fn.bell) l.fn.slot l.worker l.all;
}
