-- Those of the first slots are copied.
use Rattle.std.proofs.Common.{◌≡◌, take}
use Rattle.threaded_broker.proofs.shares.copy_all.Given as goal

abbrev pub invariant-loop-slot : goal.invariant-loop-slot
invariant-loop-slot l = l.shares.items ≡ take l.slot l.known.shares
