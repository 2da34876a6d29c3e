-- The places of so many groups have the broker's name.
use Rattle.std.proofs.Common.{◌≡◌, ◌++◌, All}
use Rattle.std.specs.Global.{Vec}
use Rattle.std.specs.Vec.Iter.{into_iter_items}
use Rattle.group_queue.specs.Places.{PlaceState}
use Rattle.broker_groups.specs.Brokers.{IsBrokerPlace}
use Rattle.broker_groups.specs.Naming.{in_a_row}
use Rattle.broker_groups.proofs.naming.name_places.Given as goal

abbrev pub invariant-loop-row : goal.invariant-loop-row
invariant-loop-row g l = record {
  rows : All (λ (row : Vec PlaceState). All (IsBrokerPlace g.B.Broker.group) row.items) (into_iter_items l.row-iterator);
  named : l.named.items ++ in_a_row (into_iter_items l.row-iterator) ≡ in_a_row l.fn.rows.items;
}
