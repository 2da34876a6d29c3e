-- The ringers reach each listener, but for those at the bell.
use Rattle.std.specs.Arc.{arc_value}
use Rattle.worker_bells.specs.Joining.{AreJoined, AreJoinedBut}
use Rattle.worker_bells.proofs.own_bells.seat_listenings.Given as goal

abbrev pub invariant-listeners : goal.invariant-listeners
invariant-listeners g l = AreJoined l.fn.all → AreJoinedBut (arc_value l.bell) l.slot l.all
