-- What each step makes of the word is what the history with that step shows.
use Rattle.std.proofs.Common.{◌≡◌, ℕ, ◌+◌, ◌-◌, ◌*◌, ◌/◌, ◌%◌, ◌^◌, ◌<◌, Bool, true, false, List, ◌∷◌, refl, sym, ap, ◌∙◌, subst, arith}
use Rattle.std.specs.Prelude.{if◌then◌else◌, ◌==◌, bit_and, bit_or}
use Rattle.std.specs.Int.{bit_at, bit_not, w64}
use Rattle.std.proofs.lemmas.Bool.{eqb-true, eqb-false}
use Rattle.std.proofs.lemmas.Nat.{and_mask, and_shr, or_shr, or_disjoint, pow_below}
use Rattle.std.proofs.lemmas.Nat.Bits.{bit_at_set_same, bit_at_set_other, bit_at_clear_same, bit_at_clear_other, bit_at_cat_low}
use lib.Bits.{and_zero_r}
use Rattle.bell.specs.declared.step.BellStep.{BellStep}
use Rattle.bell.specs.declared.step.BellStep.TheVariants.{Listened, Settled, Rang, Called}
use Rattle.bell.specs.History.{is_idle}
use Rattle.bell.specs.Handles.{turn}
use Rattle.bell.specs.Rule.{Shows, bit_of, all_but}

-- the bit of a worker below 32 is below those that count
pub bit_below : (worker : ℕ) → worker < 32 → bit_of worker < turn
bit_below worker few =
    let below : 2 ^ worker < 2 ^ 32 = pow_below worker 32 few in
    omega arith

-- so setting it leaves the count, and clearing it too
count_set : (word bit : ℕ) → bit < turn → bit_or word bit / turn ≡ word / turn
count_set word bit below =
    let none : bit / turn ≡ 0 = omega arith in
    or_shr word bit 32 ∙ ap (bit_or (word / turn)) none ∙ or_disjoint (word / turn) 0 (and_zero_r (word / turn)) ∙ omega arith

count_cleared : (word bit : ℕ) → word < 2 ^ 64 → bit < turn → bit_and word (bit_not w64 bit) / turn ≡ word / turn
count_cleared word bit fits below =
    let ones : bit_not w64 bit / turn ≡ 2 ^ 32 - 1 = omega arith in
    let small : word / turn < turn = omega arith in
    and_shr word (bit_not w64 bit) 32 ∙ ap (bit_and (word / turn)) ones ∙ and_mask (word / turn) 32 ∙ omega arith

module _ (word : ℕ) (history : List BellStep) (fits : word < 2 ^ 64) (shows : Shows word history) where
  pub shows_settled : (worker : ℕ) → worker < 32 → Shows (bit_or word (bit_of worker)) (Settled worker ∷ history)
  shows_settled worker few = record {
    rung = count_set word (bit_of worker) (bit_below worker few) ∙ shows.rung;
    idle = (λ other below. bits other below (other == worker) refl);
  }
    where
      bits : (other : ℕ) → other < 32 → (same : Bool) → (other == worker) ≡ same
          → bit_at (bit_or word (bit_of worker)) other ≡ (if (if other == worker then true else is_idle other history) then 1 else 0)
      bits other below true is =
          subst (λ (n : ℕ). bit_at (bit_or word (bit_of worker)) n ≡ 1) (sym (eqb-true other worker is)) (bit_at_set_same w64 word worker (omega arith))
          ∙ ap (λ (b : Bool). if (if b then true else is_idle other history) then 1 else 0) (sym is)
      bits other below false is =
          bit_at_set_other w64 word worker (omega arith) other (eqb-false other worker is) ∙ shows.idle other below
          ∙ ap (λ (b : Bool). if (if b then true else is_idle other history) then 1 else 0) (sym is)

  -- the two steps that clear a bit
  cleared : (worker : ℕ) → worker < 32 → (other : ℕ) → other < 32 → (same : Bool) → (other == worker) ≡ same
      → bit_at (bit_and word (all_but worker)) other ≡ (if (if other == worker then false else is_idle other history) then 1 else 0)
  cleared worker few other below true is =
      subst (λ (n : ℕ). bit_at (bit_and word (all_but worker)) n ≡ 0) (sym (eqb-true other worker is)) (bit_at_clear_same w64 word worker (omega arith))
      ∙ ap (λ (b : Bool). if (if b then false else is_idle other history) then 1 else 0) (sym is)
  cleared worker few other below false is =
      bit_at_clear_other w64 word worker (omega arith) other (omega arith) (eqb-false other worker is) ∙ shows.idle other below
      ∙ ap (λ (b : Bool). if (if b then false else is_idle other history) then 1 else 0) (sym is)

  pub shows_listened : (worker : ℕ) → worker < 32 → Shows (bit_and word (all_but worker)) (Listened worker ∷ history)
  shows_listened worker few = record {
    rung = count_cleared word (bit_of worker) fits (bit_below worker few) ∙ shows.rung;
    idle = (λ other below. cleared worker few other below (other == worker) refl);
  }

  pub shows_called : (worker : ℕ) → worker < 32 → Shows (bit_and word (all_but worker)) (Called worker ∷ history)
  shows_called worker few = record {
    rung = count_cleared word (bit_of worker) fits (bit_below worker few) ∙ shows.rung;
    idle = (λ other below. cleared worker few other below (other == worker) refl);
  }

  -- the count in the bits from 32 on goes up by one, or from its greatest to 0; the bits below stay
  pub shows_rang : Shows ((word + turn) % 2 ^ 64) (Rang ∷ history)
  shows_rang = record {
    rung = (let is = shows.rung in omega arith);
    idle = (λ other below. low other below ∙ shows.idle other below);
  }
    where
      low : (other : ℕ) → other < 32 → bit_at ((word + turn) % 2 ^ 64) other ≡ bit_at word other
      low other below =
          let next : ℕ = (word + turn) % 2 ^ 64 in
          let new : next ≡ next / turn * 2 ^ 32 + word % turn = omega arith in
          let old : word ≡ word / turn * 2 ^ 32 + word % turn = omega arith in
          ap (λ (n : ℕ). bit_at n other) new ∙ bit_at_cat_low (next / turn) 32 (word % turn) other below
          ∙ sym (ap (λ (n : ℕ). bit_at n other) old ∙ bit_at_cat_low (word / turn) 32 (word % turn) other below)
