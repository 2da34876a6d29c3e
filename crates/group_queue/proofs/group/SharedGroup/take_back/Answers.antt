-- The place's pass of the returns queue made the step, and the docket keeps the balance.
use Rattle.std.proofs.Common.{refl, sym, ap, subst, Contains, ◌∙◌, ◌++◌, ◌∷◌, []}
use Rattle.group_jobs.specs.declared.ledger.Ledger.{Ledger}
use Rattle.group_jobs.specs.Settled.{runs_of}
use Rattle.group_jobs.specs.Stamps.{Held, job_of}
use Rattle.std.proofs.lemmas.List.Elements.{Contains-push}
use Rattle.group_queue.specs.declared.place.Passes.{Passes}
use Rattle.group_queue.specs.declared.view.Bag.{Bag}
use Rattle.group_queue.specs.Witnesses.{FollowsPart}
use Rattle.group_queue.proofs.Places.{keeps_place, keeps_hands, keeps_left, returns_hands, takes_back, small_back}
use Rattle.group_queue.proofs.group.SharedGroup.take_back.Goals as goal

-- There was no memory:
-- the docket has out what it had.
pub invariant_of-place : goal.invariant_of-place
invariant_of-place g c = (keeps_place _ _ _ _ _ c.place.invariant.0 c.reserve.ensures.out c.reserve.ensures.settled, c.place.invariant.1, c.place.invariant.2, c.place.invariant.3)

-- The queue was empty:
-- the place knows what it knew.
pub invariant_of-place-in_default : goal.invariant_of-place-in_default
invariant_of-place-in_default g c =
    let h = c.place.invariant.0 in
    let t = c.place.inside.passes in
    let u : Passes = record { main = t.main; returns = c.pop-popped.new.pass } in
    let queue = c.in_default.ensures.queue in
    let hands = ap (λ p. p.hands.returns) c.place.view_is ∙ (ap (λ h. h.returns) c.requires.place.hands ∙ sym (ap (λ p. p.returns) c.self.view_is)) in (
      keeps_hands _ _ _ t u _ h c.reserve.ensures.out c.reserve.ensures.settled
          (record { part = ap (λ (b : Bag). b.parts) c.in_default.ensures.answer.0; bare = record { main = h.bare.main; hand = queue.1; spare = queue.2 } })
          refl c.in_default.ensures.answer.0,
      keeps_left t u _ (returns_hands t u.returns _ queue.0 hands) c.place.invariant.1,
      subst (FollowsPart g.W.Witness.saw_returns) (sym c.in_default.ensures.id) c.place.invariant.2,
      c.place.invariant.3,
    )

pub invariant_of-place-2 : goal.invariant_of-place-2
invariant_of-place-2 g c =
    let h = c.place.invariant.0 in
    let t = c.place.inside.passes in
    let u : Passes = record { main = t.main; returns = c.pop-popped.new.pass } in
    let x = c.in-Some.field-0 in
    let queue = c.in-Some.ensures.queue in
    let hands = ap (λ p. p.hands.returns) c.place.view_is ∙ (ap (λ h. h.returns) c.requires.place.hands ∙ sym (ap (λ p. p.returns) c.self.view_is)) in (
      takes_back _ _ _ t u _ x h (c.take_out.ensures.out ∙ ap (λ l. l ++ x.job ∷ []) c.reserve.ensures.out)
          (λ fate. ap (λ (l : Ledger). runs_of fate l) c.take_out.ensures.settled ∙ c.reserve.ensures.settled fate)
          (record { part = ap (λ (b : Bag). b.parts) c.in-Some.ensures.answer.is; bare = record { main = h.bare.main; hand = queue.1; spare = queue.2 } })
          refl c.in-Some.ensures.answer (small_back _ _ _ c.in-Some.ensures.answer),
      keeps_left t u _ (returns_hands t u.returns _ queue.0 hands) c.place.invariant.1,
      subst (FollowsPart g.W.Witness.saw_returns) (sym c.in-Some.ensures.id) c.place.invariant.2,
      c.place.invariant.3,
    )

pub returns-clause-holds : goal.returns-clause-holds
returns-clause-holds g c =
    let slot = ap (λ p. p.slot) c.self.view_is ∙ (sym c.requires.place.slot ∙ sym (ap (λ p. p.group) c.place.view_is)) in
    let x = c.in-Some.field-0 in
    let job = ap (λ (e : Held). job_of e.stamp) c.new.ensures ∙ ap job_of c.of-stamp.ensures in (
      ap (λ (e : Held). e.stamp.group) c.new.ensures ∙ (ap (λ s. s.group) c.of-stamp.ensures ∙ slot),
      ap (λ (e : Held). e.place) c.new.ensures,
      subst (Contains c.take_out.new.self.out) (sym job) (subst (λ l. Contains l x.job) (sym c.take_out.ensures.out) (Contains-push _ x.job)),
    )
