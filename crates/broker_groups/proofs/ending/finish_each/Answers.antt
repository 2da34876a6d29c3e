-- One group more was ended.
use Rattle.std.proofs.Common.{◌≡◌, ◌+◌, ℕ, List, length, slice_get, Some, Result, All, refl, sym, ap, ◌∙◌, subst, arith}
use Rattle.std.specs.Global.{Vec}
use Rattle.std.specs.Vec.Iter.{into_iter_items}
use Rattle.group_jobs.specs.Stamps.{Held}
use Rattle.group_jobs.specs.declared.report.Report.{Report}
use Rattle.group_queue.specs.declared.finish.Unfinished.{Unfinished}
use Rattle.group_queue.specs.Ports.{GroupId, PortState, IsPortOf}
use Rattle.group_queue.specs.Places.{PlaceState, IsPlaceOf}
use Rattle.group_queue.specs.Finishing.{Finishes}
use Rattle.broker_groups.proofs.Dealing.{one_longer}
use Rattle.broker_groups.proofs.Finishing.{next_is, others_are}
use Rattle.broker_groups.proofs.Rows.{each_more, one_at}
use Rattle.broker_groups.proofs.ending.finish_each.Goals as goal

pub finish-requires-clause-ports : goal.finish-requires-clause-ports
finish-requires-clause-ports g c =
    let before = c.slots.invariant in
    let n = length c.slots.answers.items in
    let it = (c.requires.groups.each n c.in-Some.group (next_is c.args.groups.items (into_iter_items c.slots.next_groups) n c.in-Some.group (into_iter_items c.next.new.self) before.groups c.in-Some.ensures.items)).0 in
    let row = c.in-Some-next.its_ports in
    subst (λ (group : GroupId). All (IsPortOf group) row.items) (sym it)
    (c.requires.ports n row (next_is c.args.ports.items (into_iter_items c.slots.next_ports) n row (into_iter_items c.next-in-Some.new.self) before.ports c.in-Some-next.ensures.items))

pub finish-requires-clause-places : goal.finish-requires-clause-places
finish-requires-clause-places g c =
    let before = c.slots.invariant in
    let n = length c.slots.answers.items in
    let it = (c.requires.groups.each n c.in-Some.group (next_is c.args.groups.items (into_iter_items c.slots.next_groups) n c.in-Some.group (into_iter_items c.next.new.self) before.groups c.in-Some.ensures.items)).0 in
    let row = c.in-Some-next-2.its_places in
    subst (λ (group : GroupId). All (IsPlaceOf group) row.items) (sym it)
    (c.requires.places n row (next_is c.args.places.items (into_iter_items c.slots.next_places) n row (into_iter_items c.next-in-Some-2.new.self) before.places c.in-Some-next-2.ensures.items))

pub slots-preserved : goal.slots-preserved
slots-preserved g c =
    let before = c.slots.invariant in
    let n = length c.slots.answers.items in
    let m = length c.push_reserved.new.self.items in
    let one : m ≡ n + 1 = one_longer c.slots.answers.items c.push_reserved.new.self.items c.finish.result c.push_reserved.ensures.items in
    let at_group = next_is c.args.groups.items (into_iter_items c.slots.next_groups) n c.in-Some.group (into_iter_items c.next.new.self) before.groups c.in-Some.ensures.items in
    let at_ports = next_is c.args.ports.items (into_iter_items c.slots.next_ports) n c.in-Some-next.its_ports (into_iter_items c.next-in-Some.new.self) before.ports c.in-Some-next.ensures.items in
    let at_places = next_is c.args.places.items (into_iter_items c.slots.next_places) n c.in-Some-next-2.its_places (into_iter_items c.next-in-Some-2.new.self) before.places c.in-Some-next-2.ensures.items in
    let at_held = next_is c.args.held.items (into_iter_items c.slots.next_held) n c.in-Some-next-3.its_held (into_iter_items c.next-in-Some-3.new.self) before.held c.in-Some-next-3.ensures.items in
    let P : ℕ → Result Report (Unfinished _) → Type 0 = λ slot answer. (its_ports : Vec PortState) (its_places : Vec PlaceState) (its_held : Vec Held)
    → slice_get c.args.ports.items slot ≡ Some its_ports → slice_get c.args.places.items slot ≡ Some its_places → slice_get c.args.held.items slot ≡ Some its_held
    → Finishes (g.B.Broker.group slot) its_ports.items its_places.items its_held.items answer in
    let here : P n c.finish.result = λ its_ports its_places its_held is_ports is_places is_held.
    subst (λ (row : Vec PortState). Finishes (g.B.Broker.group n) row.items its_places.items its_held.items c.finish.result) (one_at c.args.ports.items n c.in-Some-next.its_ports its_ports at_ports is_ports)
    (subst (λ (row : Vec PlaceState). Finishes (g.B.Broker.group n) c.in-Some-next.its_ports.items row.items its_held.items c.finish.result) (one_at c.args.places.items n c.in-Some-next-2.its_places its_places at_places is_places)
    (subst (λ (row : Vec Held). Finishes (g.B.Broker.group n) c.in-Some-next.its_ports.items c.in-Some-next-2.its_places.items row.items c.finish.result) (one_at c.args.held.items n c.in-Some-next-3.its_held its_held at_held is_held)
    (subst (λ (group : GroupId). Finishes group c.in-Some-next.its_ports.items c.in-Some-next-2.its_places.items c.in-Some-next-3.its_held.items c.finish.result) (c.requires.groups.each n c.in-Some.group at_group).0 c.finish.ensures))) in
    record {
      groups = others_are c.args.groups.items (into_iter_items c.slots.next_groups) n m c.in-Some.group (into_iter_items c.next.new.self) one before.groups c.in-Some.ensures.items;
      ports = others_are c.args.ports.items (into_iter_items c.slots.next_ports) n m c.in-Some-next.its_ports (into_iter_items c.next-in-Some.new.self) one before.ports c.in-Some-next.ensures.items;
      places = others_are c.args.places.items (into_iter_items c.slots.next_places) n m c.in-Some-next-2.its_places (into_iter_items c.next-in-Some-2.new.self) one before.places c.in-Some-next-2.ensures.items;
      held = others_are c.args.held.items (into_iter_items c.slots.next_held) n m c.in-Some-next-3.its_held (into_iter_items c.next-in-Some-3.new.self) one before.held c.in-Some-next-3.ensures.items;
      room = omega (arith, before.room, c.push_reserved.ensures.capacity);
      each = λ slot answer there. each_more P c.slots.answers.items c.finish.result n refl here before.each slot answer (ap (λ l. slice_get l slot) (sym {A = List (Result Report (Unfinished _))} c.push_reserved.ensures.items) ∙ there);
    }
