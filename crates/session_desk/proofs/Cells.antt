-- Cells, each with a place or none.
use Rattle.std.proofs.Common.{◌≡◌, ◌⊎◌, ℕ, ◌<◌, List, length, get_or, slice_get, slice_set, replicate, Option, Some, None, refl, sym, ap, ◌∙◌, subst, inl, inr, ⊎_elim, arith}
use Rattle.std.proofs.lemmas.Bool.{cases_eq}
use Rattle.std.proofs.lemmas.List.{get_or-set_same, get_or-set_other, length-set, get_or-replicate, length-replicate}
use Rattle.std.proofs.lemmas.Option.{slice_get-get_or, slice_get_within}
use Rattle.session_desk.specs.Places.{IsFreeAt, LieInOwnCells, IsOfSlot, IsLeast}

-- what a cell has, read by an index
pub cell_is : {P : Type 0} (free : List (Option P)) (cell : ℕ) (d : Option P) → cell < length free → slice_get free cell ≡ Some (get_or free cell d)
cell_is free cell d within = slice_get-get_or free cell d within

taken : {P : Type 0} (cell : Option P) → (cell ≡ None → ⊥) → (p : P) × (cell ≡ Some p)
taken None h = absurd (h refl)
taken (Some p) h = (p, refl)

-- a cell that isn't empty has a place
pub taken_cell : {P : Type 0} (free : List (Option P)) (cell : ℕ) → cell < length free → (slice_get free cell ≡ Some None → ⊥) → (p : P) × IsFreeAt free cell p
taken_cell free cell within some =
    let at = slice_get-get_or free cell None within in
    let there = taken (get_or free cell None) (λ e. some (at ∙ ap Some e)) in
    (there.0, at ∙ ap Some there.1)

same_some : {X : Type 0} (a b : X) → Some a ≡ Some b → a ≡ b
same_some a b e = cc

-- what stands in a list after one was written
pub set_at : {X : Type 0} (xs : List X) (at i : ℕ) (y x : X) → slice_get (slice_set xs at y) i ≡ Some x → ((i ≡ at) × (y ≡ x)) ⊎ (slice_get xs i ≡ Some x)
set_at xs at i y x has =
    let within = slice_get_within (slice_set xs at y) i x has in
    let same = length-set xs at y in
    let after = same_some (get_or (slice_set xs at y) i x) x (sym (slice_get-get_or (slice_set xs at y) i x within) ∙ has) in
    ⊎_elim
    (λ (here : i ≡ at). inl (here, sym (subst (λ (k : ℕ). get_or (slice_set xs at y) k x ≡ y) (sym here) (get_or-set_same xs at y x (let e = here in omega arith))) ∙ after))
    (λ (other : i ≡ at → ⊥). inr (slice_get-get_or xs i x (omega arith) ∙ ap Some (sym (get_or-set_other xs at i y x other) ∙ after)))
    (cases_eq i at)

-- what holds of each free place and its cell holds of each where one is taken away, and where another is added of which it holds
pub still_held : {P : Type 0} (Fits : ℕ → P → Type 0) (free : List (Option P)) (at : ℕ) → ((cell : ℕ) (place : P) → IsFreeAt free cell place → Fits cell place)
    → (cell : ℕ) (place : P) → IsFreeAt (slice_set free at None) cell place → Fits cell place
still_held Fits free at held cell place has =
    ⊎_elim (λ (here : (cell ≡ at) × (None ≡ Some place)). absurd (let e = here.1 in cc)) (λ (old : IsFreeAt free cell place). held cell place old) (set_at free at cell None (Some place) has)

pub also_held : {P : Type 0} (Fits : ℕ → P → Type 0) (free : List (Option P)) (at : ℕ) (more : P) → ((cell : ℕ) (place : P) → IsFreeAt free cell place → Fits cell place) → Fits at more
    → (cell : ℕ) (place : P) → IsFreeAt (slice_set free at (Some more)) cell place → Fits cell place
also_held Fits free at more held fits cell place has =
    ⊎_elim
    (λ (here : (cell ≡ at) × (Some more ≡ Some place)). subst (λ k. Fits k place) (sym here.0) (subst (λ p. Fits at p) (same_some more place here.1) fits))
    (λ (old : IsFreeAt free cell place). held cell place old)
    (set_at free at cell (Some more) (Some place) has)

-- no place is free in empty cells
pub none_free : {P : Type 0} (n cell : ℕ) (place : P) → IsFreeAt (replicate n None) cell place → ⊥
none_free {P} n cell place has =
    let within = slice_get_within (replicate n None) cell (Some place) has in
    let none : Option P = None in
    let same = length-replicate n none in
    let blank = slice_get-get_or (replicate n none) cell none within ∙ ap Some (get_or-replicate n cell none none (omega arith)) in
    let e = sym blank ∙ has in cc

-- the least free place of a group is that group's
pub of_slot : {P : Type 0} (slot_of number_of : P → ℕ) (free : List (Option P)) (slot cell : ℕ) → LieInOwnCells slot_of number_of free → (least : IsLeast free slot cell)
    → IsOfSlot slot_of number_of slot least.place
of_slot slot_of number_of free slot cell own least =
    let is = own cell least.place least.is_free in
    let at = sym least.at ∙ is.at in
    let small = least.small in
    let below = is.small in
    record { its = omega arith; small = below }
