-- So many workers' ports have the broker's name.
use Rattle.std.proofs.Common.{◌≡◌, ℕ, ◌+◌, length, vec_len, All}
use Rattle.group_queue.specs.Ports.{PortState}
use Rattle.broker_groups.specs.Naming.{IsHand, worth_of_all, worth_of_rows}
use Rattle.broker_groups.proofs.naming.name_hands.Given as goal

abbrev pub invariant-hands : goal.invariant-hands
invariant-hands g l = record {
  hands : All (IsHand g.B.Broker.group 8) l.hands.items;
  many : length l.named.items + length l.hands.items ≡ length l.fn.hands.items;
  ports : (worth : PortState → ℕ) → worth_of_all worth l.named.items + worth_of_rows worth l.hands.items ≡ worth_of_rows worth l.fn.hands.items;
}

abbrev pub decreases-hands : goal.decreases-hands
decreases-hands g l = vec_len l.hands
