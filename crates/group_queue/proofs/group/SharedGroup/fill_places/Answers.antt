-- One place more was made.
use Rattle.std.proofs.Common.{◌≡◌, ◌-◌, ◌++◌, ◌∷◌, [], subst, sym, ap, ◌∙◌, arith}
use Rattle.shared_ledger.specs.Givers.{GiverState, new_giver}
use Rattle.group_queue.specs.Places.{AreNewPlaces}
use Rattle.group_queue.proofs.Places.{new_places-push}
use Rattle.group_queue.proofs.group.SharedGroup.fill_places.Goals as goal

pub loop-number-preserved : goal.loop-number-preserved
loop-number-preserved g c =
    let before = c.loop-number.invariant in
    record {
      left = c.cut-passes.ensures.left;
      last = before.last;
      few = before.few;
      places = rw c.push_reserved.ensures.items (new_places-push _ _ _ _ before.places c.new_place.ensures.place);
      length = omega (arith, c.push_reserved.ensures.len, before.length);
      giver = c.another-own.ensures.rest ∙ (ap (λ (s : GiverState). record s { parts = s.parts - 1 }) before.giver ∙ ap (λ n. new_giver c.args.self.now.ledger n) (sym (ap (λ s. s.parts) c.another-own.ensures.rest)));
      parts = omega (arith, before.parts, ap (λ s. s.parts) c.another-own.ensures.rest, before.last, before.few, c.loop-number-test.true);
      room = omega (arith, c.push_reserved.ensures.capacity, before.room);
    }

pub returns : goal.returns
returns g c =
    let before = c.loop-number.invariant in
    let here : c.loop-number.number ≡ c.self.inside.places - 1 = omega (arith, c.loop-number-test.false, c.loop-number.auto.number-end) in
    let made = new_places-push _ _ _ _ (subst (λ n. AreNewPlaces c.args.self.now n c.loop-number.places.items) here before.places) c.new_place-2.ensures.place in
    record {
      places = rw c.push_reserved-2.ensures.items (subst (λ n. AreNewPlaces c.args.self.now n (c.loop-number.places.items ++ c.new_place-2.result ∷ [])) before.last made);
    }
