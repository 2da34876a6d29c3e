-- What holds of each of a list by its place, where the list is one longer or one shorter at its end.
use Rattle.std.proofs.Common.{ℕ, ◌+◌, List, [], ◌∷◌, ◌++◌, length, subst, arith}
use Rattle.broker_worker.specs.Parts.{AllAt}

module _ {A : Type 0} (Holds : ℕ → A → Type 0) where
  -- one more
  pub pushed_at : (place : ℕ) (xs : List A) (x : A) → AllAt Holds place xs → Holds (place + length xs) x → AllAt Holds place (xs ++ x ∷ [])
  pushed_at place [] x all one = (subst (λ n. Holds n x) (omega arith) one, tt)
  pushed_at place (a ∷ xs) x all one = (all.0, pushed_at (place + 1) xs x all.1 (subst (λ n. Holds n x) (omega arith) one))

  -- one less
  pub popped_at : (place : ℕ) (xs : List A) (x : A) → AllAt Holds place (xs ++ x ∷ []) → AllAt Holds place xs × Holds (place + length xs) x
  popped_at place [] x all = (tt, subst (λ n. Holds n x) (omega arith) all.0)
  popped_at place (a ∷ xs) x all =
      let rest = popped_at (place + 1) xs x all.1 in
      ((all.0, rest.0), subst (λ n. Holds n x) (omega arith) rest.1)
