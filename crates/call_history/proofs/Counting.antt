-- Sums over the views of all passes, where some change; and how many times a number is in a list.
use Rattle.std.proofs.Common.{◌≡◌, ℕ, zero, suc, ◌+◌, ◌<◌, ◌≤◌, Bool, true, false, nat_eq, nat_lt, cond, List, [], ◌∷◌, ◌++◌, get_or, set, length, refl, sym, ap, subst, arith}
use Rattle.std.specs.Prelude.{sum_by}
use Rattle.std.proofs.lemmas.List.Sums.{sum_by-set, sum_by-cons, sum_by-append}
use mathlib.Core.Option.{some, some-injective, some-ne-none}
use lib.ListN.{get_elem?}
use Rattle.call_history.specs.Numbers.{numbers, times, once_below}

within : {A : Type 0} (l : List A) (i : ℕ) (a : A) → get_elem? l i ≡ some a → i < length l
within [] i a at = absurd (some-ne-none a (sym at))
within (x ∷ xs) zero a at = omega arith
within (x ∷ xs) (suc i) a at = let less = within xs i a at in omega arith

get_or_at : {A : Type 0} (xs : List A) (i : ℕ) (a : A) → get_elem? xs i ≡ some a → get_or xs i a ≡ a
get_or_at [] i a at = refl
get_or_at (x ∷ xs) zero a at = some-injective x a at
get_or_at (x ∷ xs) (suc i) a at = get_or_at xs i a at

-- a sum, where one of the list changes
pub sum_at : {A : Type 0} (f : A → ℕ) (xs : List A) (i : ℕ) (a b : A) → get_elem? xs i ≡ some a → sum_by f (set xs i b) + f a ≡ sum_by f xs + f b
sum_at f xs i a b at =
    let S : ℕ → Type 0 = λ n. sum_by f (set xs i b) + n ≡ sum_by f xs + f b in
    subst S (ap f (get_or_at xs i a at)) (sum_by-set f xs i b a (within xs i a at))

-- where no other has any of something, and who has none of it did nothing, all that was done this one did
none_each : {A : Type 0} (f g : A → ℕ) (xs : List A) → sum_by g xs ≡ 0 → ((j : ℕ) (u : A) → get_elem? xs j ≡ some u → g u ≡ 0 → f u ≡ 0) → sum_by f xs ≡ 0
none_each f g [] none zeros = refl
none_each f g (x ∷ xs) none zeros =
    let here = zeros 0 x refl (omega (arith, none, sum_by-cons g x xs)) in
    let rest = none_each f g xs (omega (arith, none, sum_by-cons g x xs)) (λ j u at. zeros (suc j) u at) in
    omega (arith, here, rest, sum_by-cons f x xs)

at_most : {A : Type 0} (g : A → ℕ) (xs : List A) (i : ℕ) (v : A) → get_elem? xs i ≡ some v → g v ≤ sum_by g xs
at_most g [] i v at = absurd (some-ne-none v (sym at))
at_most g (x ∷ xs) zero v at =
    let here : g x ≡ g v = ap g (some-injective x v at) in
    omega (arith, here, sum_by-cons g x xs)
at_most g (x ∷ xs) (suc i) v at = let less = at_most g xs i v at in omega (arith, less, sum_by-cons g x xs)

pub only : {A : Type 0} (f g : A → ℕ) (xs : List A) (i : ℕ) (v : A) → get_elem? xs i ≡ some v → sum_by g xs ≡ g v
    → ((j : ℕ) (u : A) → get_elem? xs j ≡ some u → g u ≡ 0 → f u ≡ 0) → sum_by f xs ≡ f v
only f g [] i v at all zeros = absurd (some-ne-none v (sym at))
only f g (x ∷ xs) zero v at all zeros =
    let here : g x ≡ g v = ap g (some-injective x v at) in
    let same : f x ≡ f v = ap f (some-injective x v at) in
    let rest : sum_by g xs ≡ 0 = omega (arith, here, all, sum_by-cons g x xs) in
    omega (arith, same, sum_by-cons f x xs, none_each f g xs rest (λ j u e. zeros (suc j) u e))
only f g (x ∷ xs) (suc i) v at all zeros =
    let less = at_most g xs i v at in
    let gone : g x ≡ 0 = omega (arith, less, all, sum_by-cons g x xs) in
    omega (arith, sum_by-cons f x xs, zeros 0 x refl gone, only f g xs i v at (omega (arith, gone, all, sum_by-cons g x xs)) (λ j u e. zeros (suc j) u e))

abbrev is_it : ℕ → ℕ → ℕ
is_it number one = cond (nat_eq number one) 1 0

pub times_on : (number : ℕ) (xs ys : List ℕ) → times number (xs ++ ys) ≡ times number xs + times number ys
times_on number xs ys = sum_by-append (is_it number) xs ys

-- of the numbers of calls that come, each that is not below what there was is one, up to what there is then
one_more : (number count : ℕ) → once_below number count + is_it number count ≡ once_below number (count + 1)
one_more number count = by (nat_lt number count) (nat_eq number count) (nat_lt number (count + 1)) refl refl refl
  where
    by : (below here now : Bool) → nat_lt number count ≡ below → nat_eq number count ≡ here → nat_lt number (count + 1) ≡ now → cond below 1 0 + cond here 1 0 ≡ cond now 1 0
    by true true now one two three = absurd (grind (arith, one, two))
    by true false true one two three = refl
    by true false false one two three = absurd (grind (arith, one, three))
    by false true true one two three = refl
    by false true false one two three = absurd (grind (arith, two, three))
    by false false true one two three = absurd (grind (arith, one, two, three))
    by false false false one two three = refl

pub times_numbers : {E : Type 0} (number count : ℕ) (calls : List E) → once_below number count + times number (numbers count calls) ≡ once_below number (count + length calls)
times_numbers number count [] = omega (arith, ap (once_below number) (plus_none count))
  where
    plus_none : (n : ℕ) → n + 0 ≡ n
    plus_none n = omega arith
times_numbers number count (call ∷ calls) =
    let first = one_more number count in
    let rest = times_numbers number (count + 1) calls in
    let here = sum_by-cons (is_it number) count (numbers (count + 1) calls) in
    let same : once_below number ((count + 1) + length calls) ≡ once_below number (count + length (call ∷ calls)) = ap (once_below number) (let e : (count + 1) + length calls ≡ count + length (call ∷ calls) = omega arith in e) in
    omega (arith, first, rest, here, same)
