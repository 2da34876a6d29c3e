-- Every pass was taken in.
use Rattle.std.proofs.Common.{◌∷◌, ◌++◌, [], ap, sym, ◌∙◌, subst, length, get_or, ◌≡◌, ◌<◌, arith}
use Rattle.std.specs.Prelude.{map}
use Rattle.std.specs.List.Sorted.{IsPermutation}
use Rattle.std.proofs.lemmas.List.Elements.{All-cons}
use Rattle.std.proofs.lemmas.List.Sorted.{IsPermutation-remove}
use Rattle.group_jobs.specs.Dockets.{Kept}
use Rattle.group_queue.specs.Places.{PlaceState, IsBalanced}
use Rattle.group_queue.proofs.Joined.{of_group, names_all, parts_all, popped_all, pushed_all, given_all}
use Rattle.group_queue.proofs.group.SharedGroup.join_all.Goals as goal

pub returns-clause-joined : goal.returns-clause-joined
returns-clause-joined g c =
    let group = c.args.self.now in
    let places = c.args.places.items in
    let last = c.remove-last.result in
    let rest = c.remove-last.new.self.items in
    let kept = c.take_keeper-passes.ensures in
    let made = c.join_place-docket.ensures in
    let more = c.join_places.ensures in
    let items = c.remove-last.ensures.items in
    let same = subst (λ l. IsPermutation places (last ∷ l)) (sym items) (IsPermutation-remove places c.in-Some.at last (omega (arith, c.in-Some.ensures.0, ap length c.deref.ensures.value)) c.remove-last.ensures.value) in
    record {
      order = last ∷ rest;
      same = same;
      of = of_group group _ _ (c.join_ports.ensures.queue.0 ∙ ap (λ p. p.main) c.self.view_is) c.join_ports.ensures.queue.1 more.returns (ap (λ p. p.returns) c.self.view_is);
      names = names_all group.shape last c.take_keeper-passes.new.place rest c.args.ports.items _ _ _ _ kept.place kept.left.main made.names more.names c.join_ports.ensures.all;
      parts = parts_all group places last c.take_keeper-passes.new.place rest _ _ _ same c.requires.whole kept.few kept.left.parts made.parts more.parts;
      popped = (λ w. popped_all last c.take_keeper-passes.new.place rest _ _ _ _ kept.place kept.left.parts made.parts more.parts w);
      pushed = (λ w. pushed_all last c.take_keeper-passes.new.place rest _ _ _ _ kept.place kept.left.parts made.parts more.parts w);
      kept = more.dockets ∙ ap (λ l. l ++ map (λ (p : PlaceState). p.docket) rest) (c.push_reserved.ensures.items ∙ ap (λ l. l ++ c.join_place-docket.result.0 ∷ []) c.requires.none ∙ ap (λ (d : Kept). d ∷ []) (made.docket ∙ ap (λ (p : PlaceState). p.docket) kept.place));
      balanced = All-cons IsBalanced last rest (subst IsBalanced kept.place made.balanced) more.balanced;
      few = kept.few;
    }

pub returns-clause-given : goal.returns-clause-given
returns-clause-given g c =
    let group = c.args.self.now in
    let places = c.args.places.items in
    let last = c.remove-last.result in
    let rest = c.remove-last.new.self.items in
    let less : c.in-Some.at < length places = omega (arith, c.in-Some.ensures.0, ap length c.deref.ensures.value) in
    let same = subst (λ l. IsPermutation places (last ∷ l)) (sym c.remove-last.ensures.items) (IsPermutation-remove places c.in-Some.at last less c.remove-last.ensures.value) in
    let giver = c.join_place-docket.ensures.giver ∙ ap (λ (p : PlaceState). p.giver) c.take_keeper-passes.ensures.place in
    let at : get_or places c.in-Some.at last ≡ last = sym c.remove-last.ensures.value in
    let number = ap (λ l. (get_or l c.in-Some.at last).number) (sym c.deref.ensures.value) in
    given_all group places last rest _ _ _ _ same c.requires.places c.requires.whole
    (omega (arith, c.in-Some.ensures.1 last, number, ap (λ (p : PlaceState). p.number) at, c.self.invariant, ap (λ s. s.shape.places) c.self.view_is))
    giver c.requires.holder c.take_in.ensures c.join_places.ensures.givers
