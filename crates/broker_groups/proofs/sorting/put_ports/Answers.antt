-- One port more was sorted.
use Rattle.std.proofs.Common.{List, ◌++◌, All, sym, ap, ◌∙◌, subst, arith}
use Rattle.std.specs.Vec.Iter.{into_iter_items}
use Rattle.std.proofs.lemmas.List.Elements.{All-head, All-tail}
use Rattle.group_queue.specs.Ports.{PortState}
use Rattle.group_queue.proofs.Endings.{nothing_left}
use Rattle.broker_groups.specs.Brokers.{IsBrokerPort}
use Rattle.broker_groups.specs.Sorting.{AreSorted}
use Rattle.broker_groups.specs.Endings.{port_slot}
use Rattle.broker_groups.proofs.Sorted.{IsOwnPort, own_ports, put_more, room_for}
use Rattle.broker_groups.proofs.sorting.put_ports.Goals as goal

pub loop-port-init : goal.loop-port-init
loop-port-init g c = rw c.into_iter-port-iterator.ensures.into_iter_gives.0 (record {
  own = own_ports g.B.Broker.group c.into_ports-port-items.result.items c.into_ports-port-items.ensures.named;
  sorted = λ all rest was. subst (λ (ports : List PortState). AreSorted (IsBrokerPort g.B.Broker.group) port_slot 8 all (ports ++ rest) c.args.rows.now.items) (sym c.into_ports-port-items.ensures.same) was;
})

pub put-requires-clause-within : goal.put-requires-clause-within
put-requires-clause-within g c =
    let own = All-head (IsOwnPort g.B.Broker.group) _ _ (subst (All (IsOwnPort g.B.Broker.group)) c.in-Some.ensures.steps.0 c.loop-port.invariant.own) in
    let now = c.loop-port.invariant.sorted c.requires.0 c.requires.1 c.requires.2 in
    let slot = c.slot.ensures in
    let at = c.from.ensures in
    omega (arith, own.0, now.many, slot, at)

pub put-requires-clause-room : goal.put-requires-clause-room
put-requires-clause-room g c =
    room_for (IsBrokerPort g.B.Broker.group) port_slot 8 c.requires.0 (into_iter_items c.next.new.self ++ c.requires.1) c.loop-port.rows.items c.in-Some.port (into_iter_items c.loop-port.port-iterator ++ c.requires.1)
    (c.loop-port.invariant.sorted c.requires.0 c.requires.1 c.requires.2) (ap (λ l. l ++ c.requires.1) c.in-Some.ensures.steps.0) c.from.result

pub loop-port-preserved : goal.loop-port-preserved
loop-port-preserved g c =
    let group = g.B.Broker.group in
    let next = c.in-Some.ensures.steps.0 in
    let own = subst (All (IsOwnPort group)) next c.loop-port.invariant.own in
    let at = c.from.ensures ∙ c.slot.ensures in
    record {
      own = All-tail (IsOwnPort group) _ _ own;
      sorted = λ all rest was.
          put_more (IsBrokerPort group) port_slot 8 all (into_iter_items c.next.new.self ++ rest) (into_iter_items c.loop-port.port-iterator ++ rest) c.loop-port.rows.items c.put.new.rows.items c.in-Some.port c.from.result at
          (ap (λ l. l ++ rest) next) (subst (λ n. IsBrokerPort group n c.in-Some.port) (sym at) (All-head (IsOwnPort group) _ _ own).1) (c.loop-port.invariant.sorted all rest was) c.put.ensures;
    }

pub returns : goal.returns
returns g c = λ all rest was.
    let ok = c.loop-port.port-iterator.rest.ok in
    let none = nothing_left (into_iter_items c.loop-port.port-iterator) (omega (arith, ok.0, c.in-None.ensures.steps.0)) in
    subst (λ (ports : List PortState). AreSorted (IsBrokerPort g.B.Broker.group) port_slot 8 all (ports ++ rest) c.loop-port.rows.items) none (c.loop-port.invariant.sorted all rest was)
