-- Whether an item of a list passes a test, from a place on.
use Rattle.std.proofs.Common.{◌≡◌, ◌<◌, ℕ, zero, suc, ◌+◌, Bool, ◌||◌, List, [], ◌∷◌, length, drop, slice_get, Some, refl, sym, ap, ◌∙◌, arith}
use Rattle.std.specs.List.{list_any}

any_at : {X : Type 0} (test : X → Bool) (xs : List X) (place : ℕ) → place < length xs
    → (x : X) × (slice_get xs place ≡ Some x) × (list_any test (drop place xs) ≡ (test x || list_any test (drop (suc place) xs)))
any_at test [] place within = absurd (omega (arith, within))
any_at test (x ∷ xs) zero within = (x, refl, refl)
any_at test (x ∷ xs) (suc place) within = any_at test xs place (omega (arith, within))

pub any_from : {X : Type 0} (test : X → Bool) (xs : List X) (place : ℕ) (passes : Bool) → place < length xs → ((x : X) → slice_get xs place ≡ Some x → passes ≡ test x)
    → list_any test (drop place xs) ≡ (passes || list_any test (drop (place + 1) xs))
any_from test xs place passes within is =
    let here = any_at test xs place within in
    let next : suc place ≡ place + 1 = omega arith in
    here.2 ∙ ap (λ one. one || list_any test (drop (suc place) xs)) (sym (is here.0 here.1)) ∙ ap (λ later. passes || list_any test (drop later xs)) next
