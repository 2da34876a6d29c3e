-- The workers that are left, and room for what they give back.
use Rattle.std.proofs.Common.{◌≡◌, ◌+◌, ◌*◌, ◌≤◌, ℕ, All, length, map, vec_len, vec_capacity}
use Rattle.conn_channel.specs.Ends.{AreOf, end_marks_received_by}
use Rattle.worker_pool.specs.Pools.{AreAllCounted, HaveEnded}
use Rattle.worker_pool.specs.Workers.{AreNumbered, HasServed}
use Rattle.worker_pool.proofs.pool.gather.Given as goal

abbrev pub invariant-workers : goal.invariant-workers
invariant-workers g l = record {
  workers : All (HasServed l.sender.channel l.shared_broker) l.workers.items;
  table : l.routes.table ≡ l.shared_broker;
  routes : l.routes ≡ record l.fn.routes { told = l.routes.told };
  handles : length l.handles.items + length l.workers.items ≡ length l.fn.handles.items + length l.fn.workers.items;
  hands_room : length l.handles.items + length l.workers.items ≤ vec_capacity l.handles;
  receivers : length l.receivers.items + length l.workers.items ≡ length l.fn.receivers.items + length l.fn.workers.items;
  receivers_room : length l.receivers.items + length l.workers.items ≤ vec_capacity l.receivers;
  served_room : length l.served.items + length l.workers.items ≤ vec_capacity l.served;
  pollers_room : length l.pollers.items + length l.workers.items ≤ vec_capacity l.pollers;
  of : AreOf l.sender.channel l.receivers.items;
  marks : end_marks_received_by l.receivers.items + length l.workers.items ≡ end_marks_received_by l.fn.receivers.items + length l.fn.workers.items;
  all : AreAllCounted l.receivers.items l.served.items;
  ended : (share : ℕ) × AreNumbered share l.workers.items × HaveEnded g.B.Broker.group (record { saw_ledger = g.B.Seen.LedgerWitness.saw_ledger; saw_main = g.B.Seen.Witness.saw_main; saw_returns = g.B.Seen.Witness.saw_returns }) g.T.Transport.counts g.T.Transport.given g.T.Transport.accepted (length l.workers.items * share) (map (λ handle. handle.ports) l.handles.items) (map (λ handle. handle.desk) l.handles.items) l.receivers.items l.served.items
      (map g.Q.Poller.poller_calls l.pollers.items) l.routes.told;
}

abbrev pub decreases-workers : goal.decreases-workers
decreases-workers g l = vec_len l.workers
