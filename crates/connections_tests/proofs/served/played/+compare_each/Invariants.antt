-- How many lanes are left.
use Rattle.std.proofs.Common.{vec_len}
use Rattle.connections_tests.proofs.served.played.+compare_each.Given as goal

abbrev pub decreases-compare_each : goal.decreases-compare_each
decreases-compare_each g l = vec_len l.lanes
