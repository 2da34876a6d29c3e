-- Those hired so far, and what is left for the others.
use Rattle.std.proofs.Common.{◌≡◌, ◌+◌, ◌≤◌, ℕ, All, length, vec_len, vec_capacity}
use Rattle.worker_connections.specs.Handles.{IsUnused}
use Rattle.broker_worker.specs.Parts.{ArePartsOf}
use Rattle.worker_pool.specs.Workers.{AreNumbered, IsHired}
use Rattle.worker_pool.proofs.pool.hire.Given as goal

abbrev pub invariant-all_worker_parts : goal.invariant-all_worker_parts
invariant-all_worker_parts g l = record {
  all_worker_parts : length l.all_worker_parts.items ≡ length l.handles.items;
  numbered : (share : ℕ) × ArePartsOf (length l.fn.handles.items) share l.sender.channel l.all_worker_parts.items × AreNumbered share l.workers.items;
  count : length l.workers.items + length l.handles.items ≡ length l.fn.handles.items;
  hired : All (IsHired l.sender.channel l.shared_broker) l.workers.items;
  unused : All (λ handle. IsUnused handle.ports handle.desk) l.handles.items;
  handles : length l.fn.handles.items ≤ vec_capacity l.handles;
  workers : length l.fn.handles.items ≤ vec_capacity l.workers;
}

abbrev pub decreases-all_worker_parts : goal.decreases-all_worker_parts
decreases-all_worker_parts g l = vec_len l.all_worker_parts
