-- The ports of so many groups were dealt.
use Rattle.std.proofs.Common.{◌≡◌, ℕ, ◌+◌, length, All}
use Rattle.std.specs.Vec.Iter.{into_iter_items}
use Rattle.group_queue.specs.Ports.{PortState}
use Rattle.broker_groups.specs.Naming.{AreRows, IsHand, worth_of_rows}
use Rattle.broker_groups.proofs.naming.take_ports.Given as goal

abbrev pub invariant-loop-row : goal.invariant-loop-row
invariant-loop-row g l = record {
  slot : l.slot + length (into_iter_items l.row-iterator) ≡ 8;
  hands : All (IsHand g.B.Broker.group l.slot) l.hands.items;
  many : length l.hands.items ≡ l.workers;
  rows : AreRows g.B.Broker.group l.workers l.slot (into_iter_items l.row-iterator);
  ports : (worth : PortState → ℕ) → worth_of_rows worth l.hands.items + worth_of_rows worth (into_iter_items l.row-iterator) ≡ worth_of_rows worth l.fn.rows.items;
}
