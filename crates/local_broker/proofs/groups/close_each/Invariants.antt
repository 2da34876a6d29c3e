use Rattle.local_broker.proofs.Closed.{AreClosed}
use Rattle.local_broker.proofs.groups.close_each.Given as goal

abbrev pub invariant-groups : goal.invariant-groups
invariant-groups l = AreClosed l.fn.groups.items l.groups.items l.slot
