-- One place more was sorted.
use Rattle.std.proofs.Common.{◌∷◌, sym, ap, ◌∙◌, subst}
use Rattle.std.specs.Vec.Iter.{into_iter_items}
use Rattle.broker_groups.specs.Endings.{place_slot, IsPlaceAt}
use Rattle.broker_groups.proofs.Sorted.{put_more, room_for}
use Rattle.broker_groups.proofs.sorting.sort_places.Goals as goal

pub put-requires-clause-room : goal.put-requires-clause-room
put-requires-clause-room g c =
    room_for (IsPlaceAt g.B.Broker.group) place_slot 8 c.args.places.items (into_iter_items c.next.new.self) c.loop-place.rows.items c.in-Some.place (into_iter_items c.loop-place.place-iterator) c.loop-place.invariant
    c.in-Some.ensures.steps.0 c.from.result

pub loop-place-preserved : goal.loop-place-preserved
loop-place-preserved g c =
    let place = c.into_place-place.result in
    let at = c.from.ensures ∙ c.slot.ensures in
    put_more (IsPlaceAt g.B.Broker.group) place_slot 8 c.args.places.items (into_iter_items c.next.new.self) (into_iter_items c.loop-place.place-iterator) c.loop-place.rows.items c.put.new.rows.items place c.from.result at
    (c.in-Some.ensures.steps.0 ∙ ap (λ p. p ∷ into_iter_items c.next.new.self) (sym c.into_place-place.ensures.same)) (subst (λ n. IsPlaceAt g.B.Broker.group n place) (sym at) c.into_place-place.ensures.named.of)
    c.loop-place.invariant c.put.ensures
