-- Counts over histories that go on.
use Rattle.std.proofs.Common.{◌≡◌, ℕ, ◌+◌, ◌%◌, ◌≤◌, Bool, true, false, ◌||◌, List, [], ◌∷◌, ◌++◌, refl, sym, ap, ◌∙◌, arith}
use Rattle.std.specs.Prelude.{◌==◌}
use Rattle.std.proofs.lemmas.Bool.{eqb-true, eqb-false, eq-eqb, ne_eqb}
use Rattle.std.proofs.Math.Bool.{or-true}
use Rattle.bell.specs.declared.step.BellStep.{BellStep}
use Rattle.bell.specs.declared.step.BellStep.TheVariants.{Listened, Settled, Rang, Called}
use Rattle.bell.specs.History.{rings, wakes, was_called}
use Rattle.bell.specs.Handles.{turn}

pub rings_add : (since before : List BellStep) → rings (since ++ before) ≡ rings since + rings before
rings_add [] before = omega arith
rings_add (Listened worker ∷ since) before = rings_add since before
rings_add (Settled worker ∷ since) before = rings_add since before
rings_add (Rang ∷ since) before = let more = rings_add since before in omega arith
rings_add (Called worker ∷ since) before = rings_add since before

-- the counts are the same where a multiple of 2 ^ 32 was added
same_count : (more count : ℕ) → ((more + count) % turn == count % turn) ≡ (more % turn == 0)
same_count more count = by (more % turn == 0) refl
  where
    by : (b : Bool) → (more % turn == 0) ≡ b → ((more + count) % turn == count % turn) ≡ (more % turn == 0)
    by true is =
        let none : more % turn ≡ 0 = eqb-true (more % turn) 0 is in
        let same : (more + count) % turn ≡ count % turn = omega arith in
        eq-eqb _ _ same ∙ sym is
    by false is = ne_eqb _ _ (λ same. eqb-false (more % turn) 0 is (let e : (more + count) % turn ≡ count % turn = same in omega arith)) ∙ sym is

-- whether it rang since, by what the two words count
pub rang_since : (since before : List BellStep) (found heard : ℕ) → found ≡ rings (since ++ before) % turn → heard ≡ rings before % turn → (found == heard) ≡ (rings since % turn == 0)
rang_since since before found heard is was =
    ap (λ (n : ℕ). n == heard) (is ∙ ap (λ (n : ℕ). n % turn) (rings_add since before))
    ∙ ap (λ (n : ℕ). (rings since + rings before) % turn == n) was
    ∙ same_count (rings since) (rings before)

-- the wakes of a history that goes on are no fewer
pub wakes_more : (since before : List BellStep) → wakes before ≤ wakes (since ++ before)
wakes_more [] before = omega arith
wakes_more (Listened worker ∷ since) before = wakes_more since before
wakes_more (Settled worker ∷ since) before = wakes_more since before
wakes_more (Rang ∷ since) before = wakes_more since before
wakes_more (Called worker ∷ since) before = let more = wakes_more since before in omega arith

-- and what was called before still was
pub called_before : (worker : ℕ) (since before : List BellStep) → was_called worker before ≡ true → was_called worker (since ++ before) ≡ true
called_before worker [] before was = was
called_before worker (Listened other ∷ since) before was = called_before worker since before was
called_before worker (Settled other ∷ since) before was = called_before worker since before was
called_before worker (Rang ∷ since) before was = called_before worker since before was
called_before worker (Called other ∷ since) before was = ap (λ (b : Bool). (worker == other) || b) (called_before worker since before was) ∙ or-true (worker == other)

or_more : (first one other : Bool) → (one ≡ true → other ≡ true) → (first || one) ≡ true → (first || other) ≡ true
or_more true one other more is = refl
or_more false one other more is = more is

-- and so is what was called since
pub called_behind : (worker : ℕ) (since before : List BellStep) → was_called worker since ≡ true → was_called worker (since ++ before) ≡ true
called_behind worker [] before was = absurd (cc was)
called_behind worker (Listened other ∷ since) before was = called_behind worker since before was
called_behind worker (Settled other ∷ since) before was = called_behind worker since before was
called_behind worker (Rang ∷ since) before was = called_behind worker since before was
called_behind worker (Called other ∷ since) before was = or_more (worker == other) (was_called worker since) (was_called worker (since ++ before)) (called_behind worker since before) was
