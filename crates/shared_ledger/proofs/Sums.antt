-- Sums over the views of all passes, where some change.
use Rattle.std.proofs.Common.{◌≡◌, ℕ, zero, suc, ◌+◌, ◌<◌, List, [], ◌∷◌, get_or, set, length, refl, sym, ap, subst, arith}
use Rattle.std.specs.Prelude.{sum_by}
use Rattle.std.proofs.lemmas.List.Sums.{sum_by-set, sum_by-cons}
use mathlib.Core.Option.{some, some-injective, some-ne-none}
use lib.ListN.{get_elem?}

pub within : {A : Type 0} (l : List A) (i : ℕ) (a : A) → get_elem? l i ≡ some a → i < length l
within [] i a at = absurd (some-ne-none a (sym at))
within (x ∷ xs) zero a at = omega arith
within (x ∷ xs) (suc i) a at = let less = within xs i a at in omega arith

get_or_at : {A : Type 0} (xs : List A) (i : ℕ) (a : A) → get_elem? xs i ≡ some a → get_or xs i a ≡ a
get_or_at [] i a at = refl
get_or_at (x ∷ xs) zero a at = some-injective x a at
get_or_at (x ∷ xs) (suc i) a at = get_or_at xs i a at

-- a sum, where one of the list changes
pub sum_at : {A : Type 0} (f : A → ℕ) (xs : List A) (i : ℕ) (a b : A) → get_elem? xs i ≡ some a → sum_by f (set xs i b) + f a ≡ sum_by f xs + f b
sum_at f xs i a b at =
    let S : ℕ → Type 0 = λ n. sum_by f (set xs i b) + n ≡ sum_by f xs + f b in
    subst S (ap f (get_or_at xs i a at)) (sum_by-set f xs i b a (within xs i a at))

-- where a sum is 0, so is each, and the other way round
pub none_each : {A : Type 0} (f : A → ℕ) (xs : List A) → sum_by f xs ≡ 0 → (j : ℕ) (u : A) → get_elem? xs j ≡ some u → f u ≡ 0
none_each f [] none j u at = absurd (some-ne-none u (sym at))
none_each f (x ∷ xs) none zero u at =
    let here : f x ≡ f u = ap f (some-injective x u at) in
    omega (arith, here, none, sum_by-cons f x xs)
none_each f (x ∷ xs) none (suc j) u at = none_each f xs (omega (arith, none, sum_by-cons f x xs)) j u at

pub none_all : {A : Type 0} (f : A → ℕ) (xs : List A) → ((j : ℕ) (u : A) → get_elem? xs j ≡ some u → f u ≡ 0) → sum_by f xs ≡ 0
none_all f [] none = refl
none_all f (x ∷ xs) none = omega (arith, sum_by-cons f x xs, none 0 x refl, none_all f xs (λ j u at. none (suc j) u at))
