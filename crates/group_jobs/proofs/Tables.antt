-- Lists that are made from a function of places, and what stands in them.
use Rattle.std.proofs.Common.{◌≡◌, ℕ, zero, suc, ◌+◌, ◌<◌, ◌≤◌, List, [], ◌∷◌, length, get_or, slice_get, Some, None, refl, ap, ◌∙◌, arith}
use Rattle.std.proofs.lemmas.List.{get_or_past}
use Rattle.std.proofs.lemmas.Option.{slice_get_past}
use Rattle.dispatch_core.specs.declared.event.Job.{Job}
use Rattle.dispatch_core.specs.declared.event.Spot.{Spot}

-- so many results, from this number on
abbrev pub table : {X : Type 0} → (ℕ → X) → ℕ → ℕ → List X
table f from zero = []
table f from (suc count) = f from ∷ table f (from + 1) count

pub length-table : {X : Type 0} (f : ℕ → X) (from count : ℕ) → length (table f from count) ≡ count
length-table f from zero = refl
length-table f from (suc count) = ap (λ n. suc n) (length-table f (from + 1) count)

pub slice_get-table : {X : Type 0} (f : ℕ → X) (from count k : ℕ) → k < count → slice_get (table f from count) k ≡ Some (f (from + k))
slice_get-table f from zero k less = absurd (omega arith)
slice_get-table f from (suc count) zero less = let e : from ≡ from + 0 = omega arith in ap (λ n. Some (f n)) e
slice_get-table f from (suc count) (suc k) less =
    let e : from + 1 + k ≡ from + suc k = omega arith in
    slice_get-table f (from + 1) count k (omega arith) ∙ ap (λ n. Some (f n)) e

pub get_or-table : {X : Type 0} (f : ℕ → X) (from count k : ℕ) (d : X) → k < count → get_or (table f from count) k d ≡ f (from + k)
get_or-table f from zero k d less = absurd (omega arith)
get_or-table f from (suc count) zero d less = let e : from ≡ from + 0 = omega arith in ap f e
get_or-table f from (suc count) (suc k) d less =
    let e : from + 1 + k ≡ from + suc k = omega arith in
    get_or-table f (from + 1) count k d (omega arith) ∙ ap f e

pub slice_get-past_table : {X : Type 0} (f : ℕ → X) (from count k : ℕ) → count ≤ k → slice_get (table f from count) k ≡ None
slice_get-past_table f from count k most = slice_get_past (table f from count) k (omega (arith, most, length-table f from count))

pub get_or-past_table : {X : Type 0} (f : ℕ → X) (from count k : ℕ) (d : X) → count ≤ k → get_or (table f from count) k d ≡ d
get_or-past_table f from count k d most = get_or_past (table f from count) k d (omega (arith, most, length-table f from count))

-- the spots of the jobs of a port, and of one port after another
abbrev pub row : (Job → Spot) → ℕ → ℕ → List Spot
row spot port count = table (λ number. spot (record { port = port; number = number })) 0 count

abbrev pub rows : (Job → Spot) → ℕ → List ℕ → List (List Spot)
rows spot port [] = []
rows spot port (count ∷ counts) = row spot port count ∷ rows spot (port + 1) counts

pub row_at : (spot : Job → Spot) (from : ℕ) (counts : List ℕ) (k : ℕ) → get_or (rows spot from counts) k [] ≡ row spot (from + k) (get_or counts k 0)
row_at spot from [] k = refl
row_at spot from (count ∷ counts) zero = let e : from ≡ from + 0 = omega arith in ap (λ p. row spot p count) e
row_at spot from (count ∷ counts) (suc k) =
    let e : from + 1 + k ≡ from + suc k = omega arith in
    row_at spot (from + 1) counts k ∙ ap (λ p. row spot p (get_or counts k 0)) e
