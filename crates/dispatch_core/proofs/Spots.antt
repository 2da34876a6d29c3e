-- Look-ups in rows after a change of one place.
use Rattle.std.proofs.Common.{◌≡◌, ◌≢◌, ℕ, zero, suc, ◌<◌, ◌⊎◌, List, [], ◌∷◌, ◌++◌, length, set, slice_get, Some, IsSome, refl, ap, inl, inr, ⊎_elim, arith}
use Rattle.std.proofs.lemmas.Bool.{cases_eq, false≢true}
use Rattle.dispatch_core.specs.declared.event.Job.{Job}

-- a place that holds something is within the list, and the other way round
pub some_within : {X : Type 0} (xs : List X) (k : ℕ) → IsSome (slice_get xs k) → k < length xs
some_within [] k some = absurd (false≢true some)
some_within (x ∷ xs) zero some = omega arith
some_within (x ∷ xs) (suc k) some = let less = some_within xs k some in omega arith

pub some_below : {X : Type 0} (xs : List X) (k : ℕ) → k < length xs → IsSome (slice_get xs k)
some_below [] k lt = absurd (omega arith)
some_below (x ∷ xs) zero lt = refl
some_below (x ∷ xs) (suc k) lt = some_below xs k (omega arith)

-- one place of a list
pub slice_get-set_same : {X : Type 0} (xs : List X) (k : ℕ) (x : X) → k < length xs → slice_get (set xs k x) k ≡ Some x
slice_get-set_same [] k x lt = absurd (omega arith)
slice_get-set_same (y ∷ xs) zero x lt = refl
slice_get-set_same (y ∷ xs) (suc k) x lt = slice_get-set_same xs k x (omega arith)

pub slice_get-set_other : {X : Type 0} (xs : List X) (k j : ℕ) (x : X) → j ≢ k → slice_get (set xs k x) j ≡ slice_get xs j
slice_get-set_other [] k j x ne = refl
slice_get-set_other (y ∷ xs) zero zero x ne = absurd (ne refl)
slice_get-set_other (y ∷ xs) zero (suc j) x ne = refl
slice_get-set_other (y ∷ xs) (suc k) zero x ne = refl
slice_get-set_other (y ∷ xs) (suc k) (suc j) x ne = slice_get-set_other xs k j x (λ e. ne (ap (λ n. suc n) e))

pub slice_get-push_same : {X : Type 0} (xs : List X) (x : X) → slice_get (xs ++ x ∷ []) (length xs) ≡ Some x
slice_get-push_same [] x = refl
slice_get-push_same (y ∷ xs) x = slice_get-push_same xs x

pub slice_get-push_other : {X : Type 0} (xs : List X) (j : ℕ) (x : X) → j ≢ length xs → slice_get (xs ++ x ∷ []) j ≡ slice_get xs j
slice_get-push_other [] zero x ne = absurd (ne refl)
slice_get-push_other [] (suc j) x ne = refl
slice_get-push_other (y ∷ xs) zero x ne = refl
slice_get-push_other (y ∷ xs) (suc j) x ne = slice_get-push_other xs j x (λ e. ne (ap (λ n. suc n) e))

pub same_parts : (a b : Job) → a.port ≡ b.port → a.number ≡ b.number → a ≡ b
same_parts a b ports numbers = λ i. record { port = ports i; number = numbers i }

-- two jobs are one, or differ
pub same_job : (a b : Job) → (a ≡ b) ⊎ (a ≢ b)
same_job a b =
    ⊎_elim
    (λ (ports : a.port ≡ b.port).
    ⊎_elim
    (λ (numbers : a.number ≡ b.number). inl (same_parts a b ports numbers))
    (λ (other : a.number ≢ b.number). inr (λ e. other (ap (λ j. j.number) e)))
    (cases_eq a.number b.number))
    (λ (other : a.port ≢ b.port). inr (λ e. other (ap (λ j. j.port) e)))
    (cases_eq a.port b.port)
