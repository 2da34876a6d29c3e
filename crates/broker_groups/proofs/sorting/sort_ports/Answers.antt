-- One worker's ports more were sorted.
use Rattle.std.proofs.Common.{List, ap, subst}
use Rattle.std.specs.Vec.Iter.{into_iter_items}
use Rattle.group_queue.specs.Ports.{PortState}
use Rattle.broker_groups.specs.Brokers.{IsBrokerPort}
use Rattle.broker_groups.specs.Sorting.{AreSorted}
use Rattle.broker_groups.specs.Endings.{joined, port_slot}
use Rattle.broker_groups.proofs.sorting.sort_ports.Goals as goal

pub loop-ports-preserved : goal.loop-ports-preserved
loop-ports-preserved g c =
    c.put_ports.ensures (joined c.args.all.items) (joined (into_iter_items c.next.new.self))
    (subst (λ (ports : List PortState). AreSorted (IsBrokerPort g.B.Broker.group) port_slot 8 (joined c.args.all.items) ports c.loop-ports.rows.items) (ap joined c.in-Some.ensures.steps.0) c.loop-ports.invariant)
