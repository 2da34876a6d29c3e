-- Places of a list: what stands at one is one, what is put at one is there, and the others stay.
use Rattle.std.proofs.Common.{◌≡◌, ◌≢◌, ◌<◌, ◌≤◌, ℕ, List, length, slice_get, get_or, Some, None, sym, ap, ◌∙◌, ⊎_elim, arith}
use Rattle.std.specs.List.{slice_set}
use Rattle.std.proofs.Math.ListN.{length-set}
use Rattle.std.proofs.lemmas.Option.{slice_get_cases, slice_get-get_or, slice_get_past}
use Rattle.std.proofs.lemmas.List.{get_or-set_same, get_or-set_other}

module _ {X : Type 0} where
  pub some_is : (x y : X) → Some x ≡ Some y → x ≡ y
  some_is x y same = cc

  pub put_there : (xs : List X) (at : ℕ) (x : X) → at < length xs → slice_get (slice_set xs at x) at ≡ Some x
  put_there xs at x within =
      slice_get-get_or (slice_set xs at x) at x (omega (arith, within, length-set {A = X})) ∙ ap (λ (y : X). Some y) (get_or-set_same xs at x x within)

  pub others_stay : (xs : List X) (at k : ℕ) (x : X) → k ≢ at → slice_get (slice_set xs at x) k ≡ slice_get xs k
  others_stay xs at k x other = ⊎_elim
      (λ (there : (y : X) × (k < length xs) × (slice_get xs k ≡ Some y) × (get_or xs k y ≡ y)).
      slice_get-get_or (slice_set xs at x) k there.0 (omega (arith, there.1, length-set {A = X}))
      ∙ (ap (λ (y : X). Some y) (get_or-set_other xs at k x there.0 other ∙ there.3) ∙ sym there.2))
      (λ (past : (length xs ≤ k) × (slice_get xs k ≡ None)). slice_get_past (slice_set xs at x) k (omega (arith, past.0, length-set {A = X})) ∙ sym past.1)
      (slice_get_cases xs k).1
