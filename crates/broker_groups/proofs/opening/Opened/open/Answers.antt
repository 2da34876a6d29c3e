-- One group more was opened.
use Rattle.std.proofs.Common.{subst, arith}
use Rattle.broker_groups.specs.Openings.{AreOpened}
use Rattle.broker_groups.proofs.OpenedGroups.{one_opened, fresh_of, groups_of, ports_of, places_of}
use Rattle.broker_groups.proofs.NewPlaces.{new_of}
use Rattle.broker_groups.proofs.Unsent.{opened_unsent}
use Rattle.broker_groups.proofs.opening.Opened.open.Goals as goal

pub slots-preserved : goal.slots-preserved
slots-preserved g c =
    let before = c.slots.invariant in
    let made = c.in-Ok.ensures in
    record {
      opened = rw (c.push_reserved.ensures.items, c.push_reserved-in-Ok.ensures.items, c.push_reserved-in-Ok-2.ensures.items)
          (one_opened c.args.gate.now c.args.capacity c.args.workers c.slots.slot c.slots.groups.items c.slots.ports.items c.slots.places.items c.in-Ok.group c.in-Ok.its_ports c.in-Ok.its_places before.opened
          (record { slot_is = made.group.0; capacity_is = made.group.1; gate_is = made.group.2; ports_are = made.shape.0; places_are = made.shape.1 })
          (record { new = made.ports; its = made.each_port })
          (record { new = made.places; its = made.each_place }));
      groups = omega (arith, before.groups, c.push_reserved.ensures.capacity);
      ports = omega (arith, before.ports, c.push_reserved-in-Ok.ensures.capacity);
      places = omega (arith, before.places, c.push_reserved-in-Ok-2.ensures.capacity);
    }

pub returns-clause-named : goal.returns-clause-named
returns-clause-named g c =
    let end = c.slots.auto.slot-end in
    let test = c.slots-test.false in
    let gate = c.args.gate.now in
    let groups = c.slots.groups.items in
    let ports = c.slots.ports.items in
    let places = c.slots.places.items in
    let opened : AreOpened gate c.args.capacity c.args.workers 8 groups ports places = subst (λ n. AreOpened gate c.args.capacity c.args.workers n groups ports places) (omega (arith, end, test)) c.slots.invariant.opened in
    record {
      groups = groups_of gate c.args.capacity c.args.workers groups ports places opened;
      rows = opened.ports_many;
      ports = ports_of gate c.args.capacity c.args.workers groups ports places opened;
      unsent = opened_unsent gate c.args.capacity c.args.workers groups ports places opened;
      places = places_of gate c.args.capacity c.args.workers groups ports places opened;
      fresh = fresh_of gate c.args.capacity c.args.workers groups ports places opened;
      new = new_of gate c.args.capacity c.args.workers groups ports places opened;
    }
