-- Lists of runs that are equal one by one are equal.
use Rattle.std.proofs.Common.{◌≡◌, Bool, true, false, eqb, eqb-true, List, [], ◌∷◌, refl}
use Rattle.std.specs.Prelude.{◌&&◌}
use Rattle.std.specs.Cmp.Lexicographic.{pointwise}
use Rattle.std.proofs.lemmas.Bool.{false≢true}
use Rattle.dispatch_core.specs.declared.runs.Run.{Run}

abbrev same_run : Run → Run → Bool
same_run x y = (eqb x.port y.port) && ((eqb x.from y.from) && (eqb x.last y.last))

both_true : (p q : Bool) → (p && q) ≡ true → (p ≡ true) × (q ≡ true)
both_true true q is = (refl, is)
both_true false q is = absurd (false≢true is)

one_run : (x y : Run) → same_run x y ≡ true → x ≡ y
one_run x y is =
    let a = both_true (eqb x.port y.port) ((eqb x.from y.from) && (eqb x.last y.last)) is in
    let b = both_true (eqb x.from y.from) (eqb x.last y.last) a.1 in
    λ i. record { port = eqb-true x.port y.port a.0 i; from = eqb-true x.from y.from b.0 i; last = eqb-true x.last y.last b.1 i }

pub same_runs : (xs ys : List Run) → pointwise (λ x y. (eqb x.port y.port) && ((eqb x.from y.from) && (eqb x.last y.last))) xs ys ≡ true → xs ≡ ys
same_runs [] [] is = refl
same_runs [] (y ∷ ys) is = absurd (false≢true is)
same_runs (x ∷ xs) [] is = absurd (false≢true is)
same_runs (x ∷ xs) (y ∷ ys) is =
    let a = both_true (same_run x y) (pointwise (λ x y. (eqb x.port y.port) && ((eqb x.from y.from) && (eqb x.last y.last))) xs ys) is in
    let head = one_run x y a.0 in
    let tail = same_runs xs ys a.1 in
    λ i. head i ∷ tail i
