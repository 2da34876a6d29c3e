-- The place's pass of the main queue made the step, and the docket keeps the balance.
use Rattle.std.proofs.Common.{refl, sym, ap, subst, Contains, ◌∙◌, ◌++◌, ◌∷◌, []}
use Rattle.group_jobs.specs.declared.ledger.Ledger.{Ledger}
use Rattle.group_jobs.specs.Settled.{runs_of}
use Rattle.group_jobs.specs.Stamps.{Held, job_of}
use Rattle.std.proofs.lemmas.List.Elements.{Contains-push}
use Rattle.group_queue.specs.declared.place.Passes.{Passes}
use Rattle.group_queue.proofs.Places.{keeps_place, keeps_hands, keeps_left, main_hands, takes_front, small_front}
use Rattle.group_queue.proofs.group.SharedGroup.take.Goals as goal

pub invariant_of-place : goal.invariant_of-place
invariant_of-place g c = (keeps_place _ _ _ _ _ c.place.invariant.0 c.reserve.ensures.out c.reserve.ensures.settled, c.place.invariant.1, c.place.invariant.2, c.place.invariant.3)

pub invariant_of-place-in_default : goal.invariant_of-place-in_default
invariant_of-place-in_default g c =
    let h = c.place.invariant.0 in
    let t = c.place.inside.passes in
    let u : Passes = record { main = c.pop-popped.new.pass; returns = t.returns } in
    let queue = c.in_default.ensures.queue in
    let tie = queue.0 ∙ (ap (λ p. p.main) c.self.view_is ∙ sym (ap (λ p. p.hands.main) c.place.view_is ∙ ap (λ h. h.main) c.requires.place.hands)) in (
      keeps_hands _ _ _ t u _ h c.reserve.ensures.out c.reserve.ensures.settled (record { part = refl; bare = record { main = queue.1; hand = h.bare.hand; spare = h.bare.spare } })
          c.in_default.ensures.answer.0 refl,
      keeps_left t u _ (main_hands t u.main tie) c.place.invariant.1,
      c.place.invariant.2,
      c.place.invariant.3,
    )

pub invariant_of-place-2 : goal.invariant_of-place-2
invariant_of-place-2 g c =
    let h = c.place.invariant.0 in
    let t = c.place.inside.passes in
    let u : Passes = record { main = c.pop-popped.new.pass; returns = t.returns } in
    let x = c.in-Some.field-0 in
    let queue = c.in-Some.ensures.queue in
    let tie = queue.0 ∙ (ap (λ p. p.main) c.self.view_is ∙ sym (ap (λ p. p.hands.main) c.place.view_is ∙ ap (λ h. h.main) c.requires.place.hands)) in (
      takes_front _ _ _ t u _ x h (c.take_out.ensures.out ∙ ap (λ l. l ++ x.job ∷ []) c.reserve.ensures.out)
          (λ fate. ap (λ (l : Ledger). runs_of fate l) c.take_out.ensures.settled ∙ c.reserve.ensures.settled fate)
          (record { part = refl; bare = record { main = queue.1; hand = h.bare.hand; spare = h.bare.spare } }) c.in-Some.ensures.answer refl (small_front _ _ _ c.in-Some.ensures.answer),
      keeps_left t u _ (main_hands t u.main tie) c.place.invariant.1,
      c.place.invariant.2,
      c.place.invariant.3,
    )

pub returns-clause-holds : goal.returns-clause-holds
returns-clause-holds g c =
    let slot = ap (λ p. p.slot) c.self.view_is ∙ (sym c.requires.place.slot ∙ sym (ap (λ p. p.group) c.place.view_is)) in
    let x = c.in-Some.field-0 in
    let job = ap (λ (e : Held). job_of e.stamp) c.new.ensures ∙ ap job_of c.of.ensures in (
      ap (λ (e : Held). e.stamp.group) c.new.ensures ∙ (ap (λ s. s.group) c.of.ensures ∙ slot),
      ap (λ (e : Held). e.place) c.new.ensures,
      subst (Contains c.take_out.new.self.out) (sym job) (subst (λ l. Contains l x.job) (sym c.take_out.ensures.out) (Contains-push _ x.job)),
    )
