-- How many cells are left.
use Rattle.std.proofs.Common.{vec_len}
use Rattle.worker_connections.proofs.table.+abandon_each.Given as goal

abbrev pub decreases-abandon_each : goal.decreases-abandon_each
decreases-abandon_each g l = vec_len l.cells
