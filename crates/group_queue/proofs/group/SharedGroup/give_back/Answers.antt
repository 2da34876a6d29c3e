-- The place's pass of the returns queue made the step, and the docket keeps the balance.
use Rattle.std.proofs.Common.{refl, sym, ap, subst, ◌∙◌}
use Rattle.group_jobs.specs.declared.ledger.Ledger.{Ledger}
use Rattle.group_jobs.specs.Settled.{runs_of}
use Rattle.group_queue.specs.declared.place.Passes.{Passes}
use Rattle.group_queue.specs.declared.view.Bag.{Bag}
use Rattle.group_queue.specs.Witnesses.{FollowsPart}
use Rattle.group_queue.proofs.Places.{keeps_hands, keeps_left, returns_hands, gives_back}
use Rattle.group_queue.proofs.group.SharedGroup.give_back.Goals as goal

pub invariant_of-place : goal.invariant_of-place
invariant_of-place g c =
    let h = c.place.invariant.0 in
    let t = c.place.inside.passes in
    let u : Passes = record { main = t.main; returns = c.push.new.pass } in
    let queue = c.in-Ok.ensures.queue in
    let hands = ap (λ p. p.hands.returns) c.place.view_is ∙ (ap (λ h. h.returns) c.requires.place.hands ∙ sym (ap (λ p. p.returns) c.self.view_is)) in (
      gives_back _ _ _ t u _ _ h c.give_back.ensures.out (λ fate. ap (λ (l : Ledger). runs_of fate l) c.give_back.ensures.settled)
          (record { part = ap (λ (b : Bag). b.parts) c.in-Ok.ensures.answer.is; bare = record { main = h.bare.main; hand = queue.1; spare = queue.2 } })
          refl c.in-Ok.ensures.answer,
      keeps_left t u _ (returns_hands t u.returns _ queue.0 hands) c.place.invariant.1,
      subst (FollowsPart g.W.Witness.saw_returns) (sym c.in-Ok.ensures.id) c.place.invariant.2,
      c.place.invariant.3,
    )

pub invariant_of-place-in-Err : goal.invariant_of-place-in-Err
invariant_of-place-in-Err g c =
    let h = c.place.invariant.0 in
    let t = c.place.inside.passes in
    let u : Passes = record { main = t.main; returns = c.push.new.pass } in
    let queue = c.in-Err.ensures.queue in
    let hands = ap (λ p. p.hands.returns) c.place.view_is ∙ (ap (λ h. h.returns) c.requires.place.hands ∙ sym (ap (λ p. p.returns) c.self.view_is)) in (
      keeps_hands _ _ _ t u _ h refl (λ fate. refl)
          (record { part = ap (λ (b : Bag). b.parts) c.in-Err.ensures.answer.1; bare = record { main = h.bare.main; hand = queue.1; spare = queue.2 } })
          refl c.in-Err.ensures.answer.1,
      keeps_left t u _ (returns_hands t u.returns _ queue.0 hands) c.place.invariant.1,
      subst (FollowsPart g.W.Witness.saw_returns) (sym c.in-Err.ensures.id) c.place.invariant.2,
      c.place.invariant.3,
    )
