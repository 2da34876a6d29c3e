-- So many workers have a port of this group, and as many ports are left as workers.
use Rattle.std.proofs.Common.{◌≡◌, ℕ, ◌+◌, length, vec_len, All}
use Rattle.std.specs.Prelude.{sum_by}
use Rattle.group_queue.specs.Ports.{PortState}
use Rattle.broker_groups.specs.Brokers.{IsBrokerPort}
use Rattle.broker_groups.specs.Naming.{IsHand, worth_of_rows}
use Rattle.broker_groups.proofs.naming.take_row.Given as goal

abbrev pub invariant-hands : goal.invariant-hands
invariant-hands g l = record {
  hands : All (IsHand g.B.Broker.group l.slot) l.hands.items;
  row : All (IsBrokerPort g.B.Broker.group l.slot) l.row.items;
  dealt : All (IsHand g.B.Broker.group (l.slot + 1)) l.dealt.items;
  left : length l.hands.items ≡ length l.row.items;
  many : length l.dealt.items + length l.hands.items ≡ length l.fn.hands.items;
  ports : (worth : PortState → ℕ) → worth_of_rows worth l.dealt.items + (worth_of_rows worth l.hands.items + sum_by worth l.row.items) ≡ worth_of_rows worth l.fn.hands.items + sum_by worth l.fn.row.items;
}

abbrev pub decreases-hands : goal.decreases-hands
decreases-hands g l = vec_len l.hands
