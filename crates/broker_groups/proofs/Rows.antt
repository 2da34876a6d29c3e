-- Lists that have something for each slot.
use Rattle.std.proofs.Common.{◌≡◌, ◌≢◌, ◌⊎◌, ℕ, zero, suc, ◌<◌, List, [], ◌∷◌, ◌++◌, length, slice_get, Some, All, refl, sym, ap, ◌∙◌, subst, ⊎_elim, inl, inr, arith}
use Rattle.std.specs.Prelude.{slice_set}
use Rattle.std.proofs.lemmas.Bool.{cases_eq}
use Rattle.dispatch_core.proofs.Spots.{slice_get-set_same, slice_get-set_other}
use Rattle.std.proofs.lemmas.Option.{get_or_from_slice_get, same_Some, none-some, slice_get_within, slice_get-get_or}

pub there : {X : Type 0} (xs : List X) (k : ℕ) → k < length xs → (x : X) × (slice_get xs k ≡ Some x)
there [] k less = absurd (omega (arith, less))
there (x ∷ xs) zero less = (x, refl)
there (x ∷ xs) (suc k) less = there xs k (omega (arith, less))

-- an element of a list that has one more is an old one, or the last
pub pushed : {X : Type 0} (xs : List X) (x y : X) (k : ℕ) → slice_get (xs ++ x ∷ []) k ≡ Some y → (slice_get xs k ≡ Some y) ⊎ ((k ≡ length xs) × (x ≡ y))
pushed [] x y zero is = inr (refl, same_Some x y is)
pushed [] x y (suc k) is = absurd (none-some y is)
pushed (z ∷ zs) x y zero is = inl is
pushed (z ∷ zs) x y (suc k) is = ⊎_elim (λ (e : slice_get zs k ≡ Some y). inl e) (λ (e : (k ≡ length zs) × (x ≡ y)). inr (ap suc e.0, e.1)) (pushed zs x y k is)

pub All-at : {X : Type 0} (P : X → Type 0) (xs : List X) → ((k : ℕ) (x : X) → slice_get xs k ≡ Some x → P x) → All P xs
All-at P xs each k d less = each k _ (slice_get-get_or xs k d less)

module _ {X : Type 0} (P : ℕ → X → Type 0) where
  -- what holds of each element at its index holds with one more
  pub each_more : (xs : List X) (x : X) (n : ℕ) → length xs ≡ n → P n x → ((k : ℕ) (y : X) → slice_get xs k ≡ Some y → P k y) → (k : ℕ) (y : X) → slice_get (xs ++ x ∷ []) k ≡ Some y → P k y
  each_more xs x n many here each k y is =
      ⊎_elim
      (λ (old : slice_get xs k ≡ Some y). each k y old)
      (λ (new : (k ≡ length xs) × (x ≡ y)). subst (λ j. P j y) (sym (new.0 ∙ many)) (subst (P n) new.1 here))
      (pushed xs x y k is)

module _ {X R : Type 0} (Has : X → R → Type 0) where
  -- the same of two lists side by side
  pub pair_more : (xs : List X) (rs : List R) (x : X) (r : R) → length xs ≡ length rs → Has x r → ((k : ℕ) (y : X) (s : R) → slice_get xs k ≡ Some y → slice_get rs k ≡ Some s → Has y s)
      → (k : ℕ) (y : X) (s : R) → slice_get (xs ++ x ∷ []) k ≡ Some y → slice_get (rs ++ r ∷ []) k ≡ Some s → Has y s
  pair_more xs rs x r many here each k y s is has =
      ⊎_elim
      (λ (old : slice_get xs k ≡ Some y).
      ⊎_elim
      (λ (same : slice_get rs k ≡ Some s). each k y s old same)
      (λ (other : (k ≡ length rs) × (r ≡ s)). absurd (let less = slice_get_within xs k y old in omega (arith, less, other.0, many)))
      (pushed rs r s k has))
      (λ (new : (k ≡ length xs) × (x ≡ y)).
      ⊎_elim
      (λ (other : slice_get rs k ≡ Some s). absurd (let less = slice_get_within rs k s other in omega (arith, less, new.0, many)))
      (λ (same : (k ≡ length rs) × (r ≡ s)). subst (λ z. Has y z) same.1 (subst (λ z. Has z r) new.1 here))
      (pushed rs r s k has))
      (pushed xs x y k is)

-- what holds of each element at its index holds where one of them is another
pub each_set : {X : Type 0} (P : ℕ → X → Type 0) (xs : List X) (n : ℕ) (x : X) → n < length xs → P n x → ((k : ℕ) (y : X) → k ≢ n → slice_get xs k ≡ Some y → P k y) → (k : ℕ) (y : X) → slice_get (slice_set xs n x) k ≡ Some y → P k y
each_set P xs n x less here each k y is =
    ⊎_elim
    (λ (same : k ≡ n). subst (λ j. P j y) (sym same) (subst (P n) (same_Some x y (sym (slice_get-set_same xs n x less) ∙ ap (slice_get (slice_set xs n x)) (sym same) ∙ is)) here))
    (λ (other : k ≢ n). each k y other (sym (slice_get-set_other xs n k x other) ∙ is))
    (cases_eq k n)

pub All_there : {X : Type 0} (P : X → Type 0) (xs : List X) (k : ℕ) (x : X) → All P xs → slice_get xs k ≡ Some x → P x
All_there P xs k x all is = subst P (get_or_from_slice_get xs k x x is) (all k x (slice_get_within xs k x is))

-- an element of a list is one of the list with one more, and so is the last
pub left_of : {X : Type 0} (xs : List X) (y : X) (k : ℕ) (x : X) → slice_get xs k ≡ Some x → slice_get (xs ++ y ∷ []) k ≡ Some x
left_of [] y k x is = absurd (none-some x is)
left_of (z ∷ zs) y zero x is = is
left_of (z ∷ zs) y (suc k) x is = left_of zs y k x is

pub last_at : {X : Type 0} (xs : List X) (y : X) (k : ℕ) → k ≡ length xs → slice_get (xs ++ y ∷ []) k ≡ Some y
last_at [] y zero is = refl
last_at [] y (suc k) is = absurd (omega (arith, is))
last_at (z ∷ zs) y zero is = absurd (omega (arith, is))
last_at (z ∷ zs) y (suc k) is = last_at zs y k (omega (arith, is))

pub one_at : {X : Type 0} (xs : List X) (k : ℕ) (x y : X) → slice_get xs k ≡ Some x → slice_get xs k ≡ Some y → x ≡ y
one_at xs k x y is also = same_Some x y (sym is ∙ also)
