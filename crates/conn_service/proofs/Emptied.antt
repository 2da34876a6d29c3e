-- Whether anything is left behind what is written.
use Rattle.std.proofs.Common.{◌≡◌, ℕ, ◌≤◌, ◌-◌, List, [], ◌∷◌, ◌++◌, drop, length, IsTrue, nat_eq, refl, sym, ap, ◌∙◌, arith}
use Rattle.std.proofs.lemmas.List.{drop_all, length-drop}
use Rattle.std.proofs.lemmas.Bool.Decides.{nat_tests}

none_left : (n len : ℕ) (xs view : List ℕ) → len ≡ length xs → drop n xs ≡ view → n ≡ len → view ≡ []
none_left n len xs view is left same = sym left ∙ drop_all n xs (omega arith)

all_written : (n len : ℕ) (xs view : List ℕ) → n ≤ length xs → len ≡ length xs → drop n xs ≡ view → view ≡ [] → n ≡ len
all_written n len xs view within is left none =
    let short : length xs - n ≡ 0 = sym (length-drop n xs) ∙ ap length left ∙ ap length none in omega arith

pub is_empty : (n len : ℕ) (xs view : List ℕ) → n ≤ length xs → len ≡ length xs → drop n xs ≡ view → (IsTrue (nat_eq n len) → view ≡ []) × (view ≡ [] → IsTrue (nat_eq n len))
is_empty n len xs view within is left =
    (λ (same : IsTrue (nat_eq n len)). none_left n len xs view is left (grind (arith, nat_tests)), λ (none : view ≡ []). let same : n ≡ len = all_written n len xs view within is left none in grind (arith, nat_tests))

-- what waits still waits behind it
pub still_some : (xs ys more : List ℕ) → ys ≡ xs ++ more → (xs ≡ [] → ⊥) → ys ≡ [] → ⊥
still_some [] ys more is some none = some refl
still_some (x ∷ xs) ys more is some none = cc (sym is ∙ none)
