-- Each row has what is of its slot.
use Rattle.std.proofs.Common.{◌<◌, List, length, slice_get, sym, ap, ◌∙◌, subst, arith, append-nil}
use Rattle.std.proofs.lemmas.Option.{slice_get_within}
use Rattle.group_jobs.specs.Stamps.{Held}
use Rattle.group_queue.specs.Ports.{GroupId, PortState, IsPortOf}
use Rattle.group_queue.specs.Places.{PlaceState, IsPlaceOf}
use Rattle.group_queue.specs.Finishing.{Finishes}
use Rattle.broker_groups.specs.Sorting.{at_slot}
use Rattle.broker_groups.specs.Brokers.{IsBrokerPort}
use Rattle.broker_groups.specs.Endings.{held_slot, joined, place_slot, port_slot, IsAny, IsItsOwn, IsPlaceAt}
use Rattle.broker_groups.proofs.Dealing.{one_longer}
use Rattle.broker_groups.proofs.Finishing.{own_of}
use Rattle.broker_groups.proofs.Rows.{All-at, last_at, left_of, there}
use Rattle.broker_groups.proofs.Sorted.{begins}
use Rattle.broker_groups.proofs.ending.end.Goals as goal

pub sort_ports-requires : goal.sort_ports-requires
sort_ports-requires g c =
    begins (IsBrokerPort g.B.Broker.group) port_slot 8 (length (joined c.args.ports.items)) (joined c.args.ports.items) c.args.rows.ports.items c.requires.ports.0 c.requires.ports.1 (omega arith)

pub sort_places-requires : goal.sort_places-requires
sort_places-requires g c = begins (IsPlaceAt g.B.Broker.group) place_slot 8 (length c.args.places.items) c.args.places.items c.args.rows.places.items c.requires.places.0 c.requires.places.1 (omega arith)

pub sort_held-requires : goal.sort_held-requires
sort_held-requires g c = begins IsAny held_slot 9 (length c.args.held.items) c.args.held.items c.args.rows.held.items c.requires.held.0 c.requires.held.1 (omega arith)

pub finish_each-first-requires-clause-ports : goal.finish_each-first-requires-clause-ports
finish_each-first-requires-clause-ports g c = λ slot row at. All-at (IsPortOf (g.B.Broker.group slot)) row.items (λ k port is. (c.sort_ports.ensures.its slot row k port at is).1)

pub finish_each-first-requires-clause-places : goal.finish_each-first-requires-clause-places
finish_each-first-requires-clause-places g c = λ slot row at. All-at (IsPlaceOf (g.B.Broker.group slot)) row.items (λ k place is. c.sort_places.ensures.its slot row k place at is)

-- what came back of a group is the group's own
pub finish_again-answers-requires-clause-own : goal.finish_again-answers-requires-clause-own
finish_again-answers-requires-clause-own g c =
    All-at IsItsOwn c.finish_each-first.result.items (λ slot answer at.
    let group = g.B.Broker.group slot in
    let less : slot < 8 = (let within = slice_get_within c.finish_each-first.result.items slot answer at in omega (arith, within, c.finish_each-first.ensures.all)) in
    let ports = there c.sort_ports.new.rows.items slot (omega (arith, less, c.sort_ports.ensures.many)) in
    let places = there c.sort_places.new.rows.items slot (omega (arith, less, c.sort_places.ensures.many)) in
    let held = there c.pop.new.self.items slot (omega (arith, less, c.sort_held.ensures.many, one_longer c.pop.new.self.items c.sort_held.new.rows.items c.in-Some.strangers c.in-Some.ensures.items)) in
    own_of group ports.0.items places.0.items held.0.items answer
    (All-at (IsPortOf group) ports.0.items (λ k port is. (c.sort_ports.ensures.its slot ports.0 k port ports.1 is).1))
    (All-at (IsPlaceOf group) places.0.items (λ k place is. c.sort_places.ensures.its slot places.0 k place places.1 is))
    (c.finish_each-first.ensures.each slot answer ports.0 places.0 held.0 at ports.1 places.1 held.1))

pub returns-clause-ended : goal.returns-clause-ended
returns-clause-ended g c = record {
  all = c.finish_again-answers.ensures.all ∙ c.finish_each-first.ensures.all;
  slots = λ slot less.
      let named = c.into_groups-groups.ensures.named in
      let it = there c.into_groups-groups.result.items slot (omega (arith, less, named.all)) in
      let is = named.each slot it.0 it.1 in
      ap (λ (one : GroupId). one.slot) (sym is.0) ∙ is.1;
  each = λ slot answer at.
      let group = g.B.Broker.group slot in
      let less : slot < 8 = (let within = slice_get_within c.finish_again-answers.result.items slot answer at in omega (arith, within, c.finish_again-answers.ensures.all, c.finish_each-first.ensures.all)) in
      let first = there c.finish_each-first.result.items slot (omega (arith, less, c.finish_each-first.ensures.all)) in
      let ports = there c.sort_ports.new.rows.items slot (omega (arith, less, c.sort_ports.ensures.many)) in
      let places = there c.sort_places.new.rows.items slot (omega (arith, less, c.sort_places.ensures.many)) in
      let held = there c.pop.new.self.items slot (omega (arith, less, c.sort_held.ensures.many, one_longer c.pop.new.self.items c.sort_held.new.rows.items c.in-Some.strangers c.in-Some.ensures.items)) in
      let held_at = ap (λ l. slice_get l slot) c.in-Some.ensures.items ∙ left_of c.pop.new.self.items c.in-Some.strangers slot held.0 held.1 in
      c.finish_again-answers.ensures.each slot first.0 answer first.1 at group (at_slot port_slot slot (joined c.args.ports.items)) (at_slot place_slot slot c.args.places.items) (at_slot held_slot slot c.args.held.items)
      (subst (λ (row : List PortState). Finishes group row (at_slot place_slot slot c.args.places.items) (at_slot held_slot slot c.args.held.items) first.0) (sym (append-nil ports.0.items) ∙ c.sort_ports.ensures.each slot ports.0 ports.1)
      (subst (λ (row : List PlaceState). Finishes group ports.0.items row (at_slot held_slot slot c.args.held.items) first.0) (sym (append-nil places.0.items) ∙ c.sort_places.ensures.each slot places.0 places.1)
      (subst (λ (row : List Held). Finishes group ports.0.items places.0.items row first.0) (sym (append-nil held.0.items) ∙ c.sort_held.ensures.each slot held.0 held_at)
      (c.finish_each-first.ensures.each slot first.0 ports.0 places.0 held.0 first.1 ports.1 places.1 held.1))));
}

pub returns-clause-strangers : goal.returns-clause-strangers
returns-clause-strangers g c =
    let last = last_at c.pop.new.self.items c.in-Some.strangers 8 (omega (arith, c.sort_held.ensures.many, one_longer c.pop.new.self.items c.sort_held.new.rows.items c.in-Some.strangers c.in-Some.ensures.items)) in
    sym (append-nil c.in-Some.strangers.items) ∙ c.sort_held.ensures.each 8 c.in-Some.strangers (ap (λ l. slice_get l 8) c.in-Some.ensures.items ∙ last)
