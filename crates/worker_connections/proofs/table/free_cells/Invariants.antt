-- So many cells are made, all of them free, and there is memory for all.
use Rattle.std.proofs.Common.{◌≡◌, ◌≤◌, None, replicate, vec_len, vec_capacity}
use Rattle.worker_connections.proofs.table.free_cells.Given as goal

abbrev pub invariant-loop : goal.invariant-loop
invariant-loop g l = record { made : l.cells.items ≡ replicate l.counter None; len : vec_len l.cells ≡ l.counter; room : l.count ≤ vec_capacity l.cells }
