-- So many workers have no port yet.
use Rattle.std.proofs.Common.{◌≡◌, ◌≤◌, ℕ, length, vec_capacity, All}
use Rattle.group_queue.specs.Ports.{PortState}
use Rattle.broker_groups.specs.Naming.{IsHand, worth_of_rows}
use Rattle.broker_groups.proofs.naming.empty_hands.Given as goal

abbrev pub invariant-workers : goal.invariant-workers
invariant-workers g l = record {
  room : l.workers ≤ vec_capacity l.hands;
  many : length l.hands.items ≡ l.counter;
  hands : All (IsHand g.B.Broker.group 0) l.hands.items;
  ports : (worth : PortState → ℕ) → worth_of_rows worth l.hands.items ≡ 0;
}
