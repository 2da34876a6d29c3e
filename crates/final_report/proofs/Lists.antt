-- Lists: what is counted, what stands in them, and in which order.
use Rattle.std.proofs.Common.{◌≡◌, ◌≢◌, ℕ, zero, suc, ◌+◌, ◌<◌, ◌≤◌, List, [], ◌∷◌, ◌++◌, length, get_or, drop, Contains, All, refl, sym, ap, ◌∙◌, subst, arith}
use Rattle.std.specs.Prelude.{map, sum_by, slice_get, Some}
use Rattle.std.specs.List.{AllPairs}
use Rattle.std.proofs.lemmas.List.{length-map}
use Rattle.std.proofs.lemmas.List as lists
use Rattle.std.proofs.lemmas.List.Sums.{sum_by-cons, get_or-le-sum_by}

module _ {X : Type 0} where
  -- what is there counts
  pub contained : (f : X → ℕ) (xs : List X) (x : X) → Contains xs x → f x ≤ sum_by f xs
  contained f xs x (k, less, is) = omega (arith, ap f is, get_or-le-sum_by f xs k x less)

  -- two that are there, and differ by some measure, both count
  pub both_contained : (key f : X → ℕ) (xs : List X) (a b : X) → Contains xs a → Contains xs b → key a ≢ key b → f a + f b ≤ sum_by f xs
  both_contained key f [] a b (k, less, is) there ne = absurd (omega arith)
  both_contained key f (x ∷ xs) a b (zero, less, is) (zero, less', is') ne = absurd (ne (ap key (sym is ∙ is')))
  both_contained key f (x ∷ xs) a b (zero, less, is) (suc k, less', is') ne =
      omega (arith, sum_by-cons f x xs, ap f is, contained f xs b (k, omega arith, is'))
  both_contained key f (x ∷ xs) a b (suc k, less, is) (zero, less', is') ne =
      omega (arith, sum_by-cons f x xs, ap f is', contained f xs a (k, omega arith, is))
  both_contained key f (x ∷ xs) a b (suc k, less, is) (suc j, less', is') ne =
      omega (arith, sum_by-cons f x xs, both_contained key f xs a b (k, omega arith, is) (j, omega arith, is') ne)

  pub sum_by-map : {Y : Type 0} (f : X → Y) (g : Y → ℕ) (xs : List X) → sum_by g (map f xs) ≡ sum_by (λ x. g (f x)) xs
  sum_by-map f g [] = refl
  sum_by-map f g (x ∷ xs) = omega (arith, sum_by-map f g xs, sum_by-cons g (f x) (map f xs), sum_by-cons (λ (y : X). g (f y)) x xs)

  -- what holds of each element of a list that was mapped
  pub All-mapped : {Y : Type 0} (P : Y → Type 0) (f : X → Y) (xs : List X) (x : X) → All P (map f xs) → Contains xs x → P (f x)
  All-mapped P f xs x all (k, less, is) =
      let within : k < length (map f xs) = let l = length-map xs f in omega arith in
      subst P (lists.get_or-map f xs k x (f x) less ∙ ap f is) (all k (f x) within)

  -- pairs of a list that was mapped
  pub AllPairs-mapped : {Y : Type 0} (R : Y → Y → Type 0) (f : X → Y) (xs : List X) → AllPairs R (map f xs) → AllPairs (λ a b. R (f a) (f b)) xs
  AllPairs-mapped R f xs pairs = λ i j d less within.
      let l = length-map xs f in
      let here : i < length xs = omega arith in
      let there : j < length (map f xs) = omega arith in
      subst (λ y. R (f (get_or xs i d)) y) (lists.get_or-map f xs j d (f d) within)
      (subst (λ x. R x (get_or (map f xs) j (f d))) (lists.get_or-map f xs i d (f d) here) (pairs i j (f d) less there))

  -- a list from some place on, cut at a later one
  pub cut_at : (xs : List X) (from n : ℕ) (x : X) → slice_get xs n ≡ Some x → from ≤ n → (before : List X) × (drop from xs ≡ before ++ x ∷ drop (suc n) xs)
  cut_at [] from n x at less = absurd (cc)
  cut_at (y ∷ ys) zero zero x at less = let is : y ≡ x = cc in ([], ap (λ z. z ∷ ys) is)
  cut_at (y ∷ ys) zero (suc n) x at less = let rest = cut_at ys zero n x at (omega arith) in (y ∷ rest.0, ap (λ l. y ∷ l) rest.1)
  cut_at (y ∷ ys) (suc from) zero x at less = absurd (omega arith)
  cut_at (y ∷ ys) (suc from) (suc n) x at less = cut_at ys from n x at (omega arith)
