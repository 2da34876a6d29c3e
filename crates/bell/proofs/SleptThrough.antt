-- The bell's law, by induction over histories.
use Rattle.std.proofs.Common.{◌≡◌, ℕ, ◌%◌, ◌<◌, Bool, true, false, ◌||◌, true≢false, List, [], ◌∷◌, ◌++◌, refl, sym, ap, ◌∙◌, subst, arith}
use Rattle.std.specs.Prelude.{if◌then◌else◌, ◌==◌}
use Rattle.std.proofs.lemmas.Bool.{eq-eqb}
use Rattle.std.proofs.lemmas.List.{append_assoc}
use Rattle.bell.specs.declared.step.BellStep.{BellStep}
use Rattle.bell.specs.declared.step.BellStep.TheVariants.{Listened, Settled, Rang, Called}
use Rattle.bell.specs.History.{rings, is_idle, was_roused}
use Rattle.bell.specs.Handles.{turn}

-- who was not roused by this step and those before it
not_first : (a b : Bool) → (a || b) ≡ false → (a ≡ false) × (b ≡ false)
not_first true b none = absurd (true≢false none)
not_first false b none = (refl, none)

pub stays : (worker : ℕ) (since before : List BellStep) → is_idle worker before ≡ true → was_roused worker since ≡ false → is_idle worker (since ++ before) ≡ true
stays worker [] before idle none = idle
stays worker (Listened other ∷ since) before idle none =
    let not = not_first (worker == other) _ none in
    ap (λ (b : Bool). if b then false else is_idle worker (since ++ before)) not.0 ∙ stays worker since before idle not.1
stays worker (Settled other ∷ since) before idle none = or_set (worker == other) _ (stays worker since before idle none)
  where
    or_set : (a b : Bool) → b ≡ true → (if a then true else b) ≡ true
    or_set true b is = refl
    or_set false b is = is
stays worker (Rang ∷ since) before idle none = stays worker since before idle none
stays worker (Called other ∷ since) before idle none =
    let not = not_first (worker == other) _ none in
    ap (λ (b : Bool). if b then false else is_idle worker (since ++ before)) not.0 ∙ stays worker since before idle not.1

pub called : (worker : ℕ) (since before : List BellStep) → is_idle worker before ≡ true → is_idle worker (since ++ before) ≡ false → was_roused worker since ≡ true
called worker since before idle over = by (was_roused worker since) refl
  where
    by : (b : Bool) → was_roused worker since ≡ b → was_roused worker since ≡ true
    by true is = is
    by false is = absurd (true≢false (sym (stays worker since before idle is) ∙ over))

-- a list of steps with a ring in it has rung
has_rung : (later earlier since : List BellStep) → since ≡ later ++ Rang ∷ earlier → 0 < rings since
has_rung later earlier since is = subst (λ (h : List BellStep). 0 < rings h) (sym is) (rung later)
  where
    rung : (later : List BellStep) → 0 < rings (later ++ Rang ∷ earlier)
    rung [] = omega arith
    rung (Listened worker ∷ later) = rung later
    rung (Settled worker ∷ later) = rung later
    rung (Rang ∷ later) = omega arith
    rung (Called worker ∷ later) = rung later

-- the steps before the last one
abbrev tail_of : List BellStep → List BellStep
tail_of [] = []
tail_of (step ∷ before) = before

abbrev is_ring : List BellStep → Bool
is_ring (Rang ∷ before) = true
is_ring _ = false

still : (worker : ℕ) (step : BellStep) (after : List BellStep) → was_roused worker (step ∷ after) ≡ false → was_roused worker after ≡ false
still worker (Listened other) after none = (not_first (worker == other) _ none).1
still worker (Settled other) after none = none
still worker Rang after none = none
still worker (Called other) after none = (not_first (worker == other) _ none).1

module _ (worker : ℕ) (known since : List BellStep) (none_rang : rings since ≡ 0) where
  settled_idle : is_idle worker (Settled worker ∷ (since ++ known)) ≡ true
  settled_idle = ap (λ (b : Bool). if b then true else is_idle worker (since ++ known)) (eq-eqb worker worker refl)

  pub each_found : (after later earlier : List BellStep) → after ++ Settled worker ∷ since ≡ later ++ Rang ∷ earlier → was_roused worker after ≡ false
      → is_idle worker (earlier ++ known) ≡ true
  each_found [] [] earlier is none = absurd (true≢false (sym (ap is_ring is)))
  each_found [] (step ∷ later) earlier is none =
      let rung = has_rung later earlier since (ap tail_of is) in
      absurd (omega arith)
  each_found (step ∷ after) [] earlier is none =
      let here = stays worker after (Settled worker ∷ (since ++ known)) settled_idle (still worker step after none) in
      subst (λ (h : List BellStep). is_idle worker (h ++ known) ≡ true) (ap tail_of is)
      (ap (is_idle worker) (append_assoc after (Settled worker ∷ since) known) ∙ here)
  each_found (step ∷ after) (other ∷ later) earlier is none = each_found after later earlier (ap tail_of is) (still worker step after none)

pub heard : (worker : ℕ) (known since after later earlier : List BellStep) → rings since % turn ≡ 0 → rings since < turn
    → after ++ Settled worker ∷ since ≡ later ++ Rang ∷ earlier → was_roused worker after ≡ false → is_idle worker (earlier ++ known) ≡ true
heard worker known since after later earlier even few is none =
    let none_rang : rings since ≡ 0 = omega arith in
    each_found worker known since none_rang after later earlier is none
