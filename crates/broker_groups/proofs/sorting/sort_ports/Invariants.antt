-- The ports of the workers so far were sorted.
use Rattle.std.specs.Vec.Iter.{into_iter_items}
use Rattle.broker_groups.specs.Brokers.{IsBrokerPort}
use Rattle.broker_groups.specs.Sorting.{AreSorted}
use Rattle.broker_groups.specs.Endings.{joined, port_slot}
use Rattle.broker_groups.proofs.sorting.sort_ports.Given as goal

abbrev pub invariant-loop-ports : goal.invariant-loop-ports
invariant-loop-ports g l = AreSorted (IsBrokerPort g.B.Broker.group) port_slot 8 (joined l.fn.all.items) (joined (into_iter_items l.ports-iterator)) l.rows.items
