-- How many of the cells have a connection.
use Rattle.std.proofs.Common.{◌≡◌, ◌+◌, ◌++◌, ℕ, suc, List, [], ◌∷◌, Option, None, replicate, All, Bool, true, IsTrue, ◌↔◌, refl, subst, arith}
use Rattle.std.proofs.lemmas.List.Sums.{sum_by-cons}
use Rattle.std.proofs.lemmas.List.Folds.{sum_by-replicate}
use Rattle.worker_connections.specs.Cells.{taken, occupied}

-- no connection is in so many free cells
pub replicate-occupied : {A : Type 0} (count : ℕ) (cells : List (Option A)) → cells ≡ replicate count None → occupied cells ≡ 0
replicate-occupied {A} count cells free =
    let none : occupied {A = A} (replicate count None) ≡ 0 = rw (sum_by-replicate {X = Option A} taken count None) (omega arith) in
    rw free none

-- nor in cells that are all free
pub free-occupied : {A : Type 0} (cells : List (Option A)) → All (λ cell. cell ≡ None) cells → occupied cells ≡ 0
free-occupied [] free = refl
free-occupied {A} (cell ∷ cells) free =
    let first : cell ≡ None = free 0 None (omega arith) in
    let rest : occupied cells ≡ 0 = free-occupied cells (λ k d h. free (suc k) d (omega arith)) in
    let none : taken cell ≡ 0 = rw first refl in
    rw (sum_by-cons {X = Option A} taken cell cells) (omega arith)

-- the same cells under another name
pub free_along : {A : Type 0} (empty : Bool) (here cells : List (Option A)) → here ≡ cells → (IsTrue empty ↔ All (λ cell. cell ≡ None) here)
    → IsTrue empty ↔ All (λ cell. cell ≡ None) cells
free_along {A} empty here cells same tells =
    let Tells : List (Option A) → Type 0 = λ cells. IsTrue empty ↔ All (λ cell. cell ≡ None) cells in
    subst Tells same tells

pub empty-occupied : {A : Type 0} (empty : Bool) (here cells : List (Option A)) → here ≡ cells → (IsTrue empty ↔ All (λ cell. cell ≡ None) here)
    → empty ≡ true → occupied cells ≡ 0
empty-occupied empty here cells same tells holds = free-occupied cells ((free_along empty here cells same tells).0 holds)

-- after the cells in front of it, the last one counts for itself
pub occupied-behind : {A : Type 0} (front : List (Option A)) (cell : Option A) → occupied (front ++ cell ∷ []) ≡ occupied front + taken cell
occupied-behind {A = A} [] cell = rw (sum_by-cons {X = Option A} taken cell []) (omega arith)
occupied-behind {A = A} (one ∷ front) cell =
    let rest = occupied-behind front cell in
    rw (sum_by-cons {X = Option A} taken one (front ++ cell ∷ [])) (rw (sum_by-cons {X = Option A} taken one front) (omega (arith, rest)))
