-- The workers that are left, and room for what they had.
use Rattle.std.proofs.Common.{◌≡◌, ◌+◌, ◌≤◌, length, vec_len, vec_capacity}
use Rattle.worker_pool.proofs.pool.release.Given as goal

abbrev pub invariant-workers : goal.invariant-workers
invariant-workers g l = record {
  count : length l.handles.items + length l.workers.items ≡ length l.fn.handles.items + length l.fn.workers.items;
  room : length l.handles.items + length l.workers.items ≤ vec_capacity l.handles;
}

abbrev pub decreases-workers : goal.decreases-workers
decreases-workers g l = vec_len l.workers
