-- Where pieces are cut.
use Rattle.std.proofs.Common.{◌≡◌, ℕ, ◌+◌, ◌<◌, suc, zero, Bool, true, false, eqb, List, [], ◌∷◌, length, get_or, take, drop, refl, ap, arith, Some, None, add-one}
use Rattle.memchr.specs.Find.{IsFirstByte}
use Rattle.text_io.specs.Lines.{cut_at, onto_first}

module _ (separator : ℕ) (last : List (List ℕ)) where
  abbrev ends : ℕ → Bool
  ends byte = eqb byte separator

  cut_here : (xs : List ℕ) (end : ℕ) → end < length xs → ends (get_or xs end 0) ≡ true → ((k : ℕ) → k < end → ends (get_or xs k 0) ≡ false)
      → cut_at separator last xs ≡ take end xs ∷ cut_at separator last (drop (suc end) xs)
  cut_here [] end within here before = absurd (omega arith)
  cut_here (x ∷ xs) zero within here before = rw here refl
  cut_here (x ∷ xs) (suc end) within here before =
      rw (before 0 (omega arith)) (ap (onto_first x) (cut_here xs end (omega arith) here (λ k h. before (suc k) (omega arith))))

  is_other : (b : Bool) → ¬ (b ≡ true) → b ≡ false
  is_other true differs = absurd (differs refl)
  is_other false differs = refl

  -- the first piece ends at the first separator
  pub cut_first : (xs : List ℕ) (end : ℕ) → IsFirstByte ends xs (Some end) → cut_at separator last xs ≡ take end xs ∷ cut_at separator last (drop (end + 1) xs)
  cut_first xs end found = rw add-one (cut_here xs end found.0.high found.1 (λ k h. is_other _ (found.0.before k (omega arith) h)))

  -- where no separator is, there is one piece
  cut_without : ((x : ℕ) → onto_first x last ≡ (x ∷ []) ∷ []) → (x : ℕ) (xs : List ℕ) → ((k : ℕ) → k < length (x ∷ xs) → ends (get_or (x ∷ xs) k 0) ≡ false)
      → cut_at separator last (x ∷ xs) ≡ (x ∷ xs) ∷ []
  cut_without one x [] none = rw (none 0 (omega arith)) (one x)
  cut_without one x (y ∷ ys) none =
      rw (none 0 (omega arith)) (ap (onto_first x) (cut_without one y ys (λ k h. none (suc k) (omega arith))))

  pub cut_none : ((x : ℕ) → onto_first x last ≡ (x ∷ []) ∷ []) → (xs : List ℕ) → 0 < length xs → IsFirstByte ends xs None → cut_at separator last xs ≡ xs ∷ []
  cut_none one [] some none = absurd (omega arith)
  cut_none one (x ∷ xs) some none = cut_without one x xs (λ k h. is_other _ (none k (omega arith) h))
