-- A list in which the element at one place is known, and changed.
use Rattle.std.proofs.Common.{◌≡◌, ℕ, zero, suc, ◌+◌, ◌<◌, ◌≤◌, List, [], ◌∷◌, ◌++◌, length, get_or, set, sym, refl, ap, ◌∙◌, subst, arith}
use Rattle.std.specs.Prelude.{All, Any, sum_by}
use Rattle.std.proofs.lemmas.List.Elements.{All-get_or}
use Rattle.std.proofs.lemmas.List.Sums.{sum_by-set, get_or-le-sum_by}
use mathlib.Core.Option.{some, some-injective, some-ne-none}
use lib.ListN.{get_elem?}

module _ {A : Type 0} where
  pub within : (xs : List A) (i : ℕ) (a : A) → get_elem? xs i ≡ some a → i < length xs
  within [] i a at = absurd (some-ne-none a (sym at))
  within (x ∷ xs) zero a at = omega arith
  within (x ∷ xs) (suc i) a at = let h = within xs i a at in omega arith

  pub get_or_at : (xs : List A) (i : ℕ) (a : A) → get_elem? xs i ≡ some a → get_or xs i a ≡ a
  get_or_at [] i a at = refl
  get_or_at (x ∷ xs) zero a at = some-injective x a at
  get_or_at (x ∷ xs) (suc i) a at = get_or_at xs i a at

  pub all_at : (P : A → Type 0) (xs : List A) (i : ℕ) (a : A) → get_elem? xs i ≡ some a → All P xs → P a
  all_at P xs i a at all = subst P (get_or_at xs i a at) (All-get_or P xs i a (within xs i a at) all)

  pub sum_at : (f : A → ℕ) (xs : List A) (i : ℕ) (a b : A) → get_elem? xs i ≡ some a → sum_by f (set xs i b) + f a ≡ sum_by f xs + f b
  sum_at f xs i a b at =
      let S : ℕ → Type 0 = λ n. sum_by f (set xs i b) + n ≡ sum_by f xs + f b in
      subst S (ap f (get_or_at xs i a at)) (sum_by-set f xs i b a (within xs i a at))

  pub at_most : (f : A → ℕ) (xs : List A) (i : ℕ) (a : A) → get_elem? xs i ≡ some a → f a ≤ sum_by f xs
  at_most f xs i a at =
      let M : A → Type 0 = λ b. f b ≤ sum_by f xs in
      subst M (get_or_at xs i a at) (get_or-le-sum_by f xs i a (within xs i a at))

  -- what some element is, some element still is, if what takes its place is so too
  pub any_at : (P : A → Type 0) (xs : List A) (i : ℕ) (a b : A) → get_elem? xs i ≡ some a → (P a → P b) → Any P xs → Any P (set xs i b)
  any_at P [] i a b at goes (k, x, lt, is, p) = absurd (some-ne-none a (sym at))
  any_at P (y ∷ xs) zero a b at goes (zero, x, lt, is, p) = (0, b, omega arith, refl, goes (subst P (sym is ∙ some-injective y a at) p))
  any_at P (y ∷ xs) zero a b at goes (suc k, x, lt, is, p) = (suc k, x, lt, is, p)
  any_at P (y ∷ xs) (suc i) a b at goes (zero, x, lt, is, p) = (0, x, omega arith, is, p)
  any_at P (y ∷ xs) (suc i) a b at goes (suc k, x, lt, is, p) =
      let more = any_at P xs i a b at goes (k, x, omega arith, is, p) in
      (suc more.0, more.1, omega arith, more.3, more.4)

  pub any_front : (P : A → Type 0) (xs : List A) (a : A) → Any P xs → Any P (xs ++ a ∷ [])
  any_front P [] a (k, x, lt, is, p) = absurd (omega arith)
  any_front P (y ∷ xs) a (zero, x, lt, is, p) = (0, x, omega arith, is, p)
  any_front P (y ∷ xs) a (suc k, x, lt, is, p) =
      let more = any_front P xs a (k, x, omega arith, is, p) in
      (suc more.0, more.1, omega arith, more.3, more.4)
