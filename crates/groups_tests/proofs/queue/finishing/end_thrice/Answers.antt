-- The far place is put after the others.
use Rattle.std.proofs.Common.{List, ◌∷◌, [], All, sym, subst}
use Rattle.std.proofs.lemmas.List.Elements.{All-append, All-cons, All-nil}
use Rattle.group_queue.specs.Ports.{GroupId}
use Rattle.group_queue.specs.Places.{PlaceState, IsPlaceOf}
use Rattle.groups_tests.proofs.queue.finishing.end_thrice.Goals as goal

pub end_with_stranger-requires-clause-places : goal.end_with_stranger-requires-clause-places
end_with_stranger-requires-clause-places g c =
    let u = c.in-Err.unfinished in
    let same = sym c.in-Err.ensures.1 in
    let places = sym c.in-Err.ensures.3 in
    let others = subst (λ (q : GroupId × List PlaceState). All (IsPlaceOf q.0) q.1) (λ i. (same i, places i)) c.requires.places in
    let far = subst (λ (q : GroupId). IsPlaceOf q c.args.far) same c.requires.far in
    subst (All (IsPlaceOf u.group)) (sym c.in-Ok-push.ensures.items)
    (All-append (IsPlaceOf u.group) u.places.items (c.args.far ∷ []) others (All-cons (IsPlaceOf u.group) c.args.far [] far (All-nil (IsPlaceOf u.group))))
