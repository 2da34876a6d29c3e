-- The filters that are left.
use Rattle.std.specs.Vec.Iter.{into_iter_len}
use Rattle.conn_supply.proofs.subscribing.+leave_each.Given as goal

abbrev pub decreases-leave_each : goal.decreases-leave_each
decreases-leave_each g l = into_iter_len l.filters
