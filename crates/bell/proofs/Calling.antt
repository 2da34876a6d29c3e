-- One worker after the other is called.
use Rattle.std.proofs.Common.{◌≡◌, ◌≢◌, ◌⊎◌, ℕ, ◌+◌, ◌-◌, ◌<◌, ◌≤◌, inl, inr, ⊎_elim, Bool, true, false, not, ◌||◌, ◌&&◌, true≢false, List, [], ◌∷◌, ◌++◌, refl, sym, ap, ◌∙◌, subst, arith}
use Rattle.std.specs.Int.{bit_at}
use Rattle.std.specs.Prelude.{if◌then◌else◌, ◌==◌}
use Rattle.std.proofs.lemmas.Bool.{eqb-true, eqb-false}
use Rattle.std.proofs.lemmas.List.{append_assoc}
use Rattle.bell.specs.declared.step.BellStep.{BellStep}
use Rattle.bell.specs.declared.step.BellStep.TheVariants.{Called, Rang}
use Rattle.bell.specs.History.{is_idle, was_called, wakes}
use Rattle.bell.specs.Calls.{CallsDue, DueBelow, CalledBelow, Makes, Rings, ShowsIdle, is_due}
use Rattle.bell.proofs.Counts.{wakes_more, called_before, called_behind}

not_last : (n k : ℕ) → n ≢ k → n < k + 1 → n < k
not_last n k apart within = omega arith

-- nobody was called yet
pub none_called : (due : ℕ → Bool) (wanted : ℕ) (old : List BellStep) → CallsDue due 0 wanted 0 old old
none_called due wanted old = record { since = []; is = refl; most = omega arith; each = inr (λ worker below is. absurd (omega arith)); idle = omega arith }

module _ (due : ℕ → Bool) (workers wanted woken : ℕ) (old new : List BellStep) (calls : CallsDue due workers wanted woken old new) where
  -- the next one was not due
  pub next_busy : due workers ≡ false → CallsDue due (workers + 1) wanted woken old new
  next_busy busy = record { since = calls.since; is = calls.is; most = calls.most; each = ⊎_elim inl (λ below. inr (each below)) calls.each; idle = calls.idle }
    where
      each : DueBelow due workers calls.since → DueBelow due (workers + 1) calls.since
      each below worker within is_due = by (worker == workers) refl
        where
          by : (b : Bool) → (worker == workers) ≡ b → was_called worker calls.since ≡ true
          by true is = absurd (true≢false (sym is_due ∙ ap due (eqb-true worker workers is) ∙ busy))
          by false is = let apart = eqb-false worker workers is in below worker (not_last worker workers apart within) is_due

  -- the next one was called
  module _ (newer : List BellStep) (between : List BellStep) (made : newer ≡ Called workers ∷ (between ++ new)) where
    together : newer ≡ (Called workers ∷ (between ++ calls.since)) ++ old
    together =
        made ∙ ap (λ (h : List BellStep). Called workers ∷ (between ++ h)) calls.is
        ∙ ap (λ (h : List BellStep). Called workers ∷ h) (sym (append_assoc between calls.since old))

    each_more : DueBelow due workers calls.since → DueBelow due (workers + 1) (Called workers ∷ (between ++ calls.since))
    each_more below worker within is_due = by (worker == workers) refl
      where
        by : (b : Bool) → (worker == workers) ≡ b → ((worker == workers) || was_called worker (between ++ calls.since)) ≡ true
        by true is = ap (λ (b : Bool). b || was_called worker (between ++ calls.since)) is
        by false is =
            let apart = eqb-false worker workers is in
            ap (λ (b : Bool). b || was_called worker (between ++ calls.since)) is
            ∙ called_before worker between calls.since (below worker (not_last worker workers apart within) is_due)

    at_most_one : (b : Bool) → (if b then 1 else 0) ≤ 1
    at_most_one true = omega arith
    at_most_one false = omega arith

    pub next_called : (more : ℕ) → (more ≡ (if is_idle workers (between ++ new) then 1 else 0)) → woken + 1 ≤ wanted → CallsDue due (workers + 1) wanted (woken + more) old newer
    next_called more is room_for_one =
        let before = wakes_more between new in
        let counted : wakes newer ≡ (if is_idle workers (between ++ new) then 1 else 0) + wakes (between ++ new) = ap wakes made in
        let was = calls.idle in
        record {
          since = Called workers ∷ (between ++ calls.since);
          is = together;
          most = (let one = at_most_one (is_idle workers (between ++ new)) in omega arith);
          each = ⊎_elim (λ full. absurd (let some = calls.most in omega arith)) (λ below. inr (each_more below)) calls.each;
          idle = omega arith;
        }

-- who is idle is named or not
named_or_not : (found first worker : ℕ) → (bit_at found worker == 1) ≡ true → (is_due found first true worker ≡ true) ⊎ (is_due found first false worker ≡ true)
named_or_not found first worker idle = by (bit_at first worker == 1) refl
  where
    by : (b : Bool) → (bit_at first worker == 1) ≡ b → (is_due found first true worker ≡ true) ⊎ (is_due found first false worker ≡ true)
    by true is = inl (ap (λ (x : Bool). x && (bit_at first worker == 1)) idle ∙ is)
    by false is = inr (ap (λ (x : Bool). x && not (bit_at first worker == 1)) idle ∙ ap not is)

-- a ring, and then its calls: first of those who are named, then of the others
module _ (workers wanted named others found first : ℕ) (old rung mid new : List BellStep) (few : workers ≤ 32) (made : Makes Rang old rung) (shows : ShowsIdle found rung)
    (calls : CallsDue (is_due found first true) workers wanted named rung mid) (more : CallsDue (is_due found first false) workers (wanted - named) others mid new) where
  both_each : DueBelow (is_due found first true) workers calls.since → DueBelow (is_due found first false) workers more.since → CalledBelow workers rung (more.since ++ calls.since)
  both_each below below' worker within idle =
      ⊎_elim
      (λ due. called_before worker more.since calls.since (below worker within due))
      (λ due. called_behind worker more.since calls.since (below' worker within due))
      (named_or_not found first worker (shows worker (omega arith) ∙ idle))

  each : (named + others ≡ wanted) ⊎ CalledBelow workers rung (more.since ++ calls.since)
  each =
      ⊎_elim
      (λ (full : named ≡ wanted). inl (let none = more.most in omega arith))
      (λ below. ⊎_elim
      (λ (full : others ≡ wanted - named). inl (let most = calls.most in omega arith))
      (λ below'. inr (both_each below below'))
      more.each)
      calls.each

  pub ring_called : Rings workers wanted (named + others) old new
  ring_called = record {
    others = made.0;
    since = more.since ++ calls.since;
    is = more.is ∙ ap (λ (h : List BellStep). more.since ++ h) calls.is ∙ sym (append_assoc more.since calls.since rung) ∙ ap (λ (h : List BellStep). (more.since ++ calls.since) ++ h) made.1;
    most = (let one = calls.most in let two = more.most in omega arith);
    each = ⊎_elim inl (λ below. inr (subst (λ (h : List BellStep). CalledBelow workers h (more.since ++ calls.since)) made.1 below)) each;
    idle = (let one = subst (λ (h : List BellStep). named + wakes h ≤ wakes mid) made.1 calls.idle in let two = more.idle in omega arith);
  }

-- there is room for one more
pub room : (woken wanted : ℕ) → woken ≢ wanted → woken ≤ wanted → woken + 1 ≤ wanted
room woken wanted apart most = omega arith
