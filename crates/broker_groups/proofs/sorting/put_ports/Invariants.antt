-- The worker's ports so far were sorted.
use Rattle.std.proofs.Common.{List, ◌++◌, All}
use Rattle.std.specs.Vec.Iter.{into_iter_items}
use Rattle.group_queue.specs.Ports.{PortState}
use Rattle.broker_groups.specs.Brokers.{IsBrokerPort}
use Rattle.broker_groups.specs.Sorting.{AreSorted}
use Rattle.broker_groups.specs.Endings.{port_slot}
use Rattle.broker_groups.proofs.Sorted.{IsOwnPort}
use Rattle.broker_groups.proofs.sorting.put_ports.Given as goal

abbrev pub invariant-loop-port : goal.invariant-loop-port
invariant-loop-port g l = record {
  own : All (IsOwnPort g.B.Broker.group) (into_iter_items l.port-iterator);
  sorted : (all rest : List PortState) → AreSorted (IsBrokerPort g.B.Broker.group) port_slot 8 all (l.fn.ports ++ rest) l.initial.rows.items
      → AreSorted (IsBrokerPort g.B.Broker.group) port_slot 8 all (into_iter_items l.port-iterator ++ rest) l.rows.items;
}
