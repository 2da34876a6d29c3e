-- The ringers reach each listener, where they did.
use Rattle.worker_bells.specs.Joining.{AreJoined}
use Rattle.worker_bells.proofs.own_bells.fit_slot.Given as goal

abbrev pub invariant-bell_groups : goal.invariant-bell_groups
invariant-bell_groups g l = AreJoined l.fn.all → AreJoined l.all
