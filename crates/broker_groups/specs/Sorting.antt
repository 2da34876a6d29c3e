-- Things that are sorted by the slots of their groups.
use Rattle.std.specs.Prelude.{◌≡◌, ℕ, ◌+◌, ◌≤◌, ◌==◌, List, [], ◌∷◌, ◌++◌, length, slice_get, slice_set, Some, vec_len, vec_capacity}
use Rattle.std.specs.List.{filter}
use Rattle.std.specs.Global.{Vec}

-- the things of this slot, in their order
abbrev pub at_slot : {X : Type 0} → (X → ℕ) → ℕ → List X → List X
at_slot slot_of slot all = filter (λ x. slot_of x == slot) all

-- an empty row with room for so many
pub record IsEmptyRow {X : Type 0} (room : ℕ) (row : Vec X) : Type 0 where
  pub none : row.items ≡ []
  pub len : vec_len row ≡ 0
  pub room_is : room ≤ vec_capacity row

-- one thing more stands in a row, at its end
pub record Puts {X : Type 0} (old : List (Vec X)) (at : ℕ) (item : X) (new : List (Vec X)) : Type 0 where
  pub before : Vec X
  pub there : slice_get old at ≡ Some before
  pub after : Vec X
  pub items_are : after.items ≡ before.items ++ item ∷ []
  pub longer : vec_len after ≡ vec_len before + 1
  pub room_is : vec_capacity after ≡ vec_capacity before
  pub becomes : new ≡ slice_set old at after

-- all things but the rest stand in the rows of their slots, in their order, each as it has to be there, and there is room for the rest
pub record AreSorted {X : Type 0} (IsOf : ℕ → X → Type 0) (slot_of : X → ℕ) (count : ℕ) (all rest : List X) (rows : List (Vec X)) : Type 0 where
  pub many : length rows ≡ count
  pub each : (slot : ℕ) (row : Vec X) → slice_get rows slot ≡ Some row → row.items ++ at_slot slot_of slot rest ≡ at_slot slot_of slot all
  pub room : (slot : ℕ) (row : Vec X) → slice_get rows slot ≡ Some row → vec_len row + length rest ≤ vec_capacity row
  pub its : (slot : ℕ) (row : Vec X) (k : ℕ) (x : X) → slice_get rows slot ≡ Some row → slice_get row.items k ≡ Some x → IsOf slot x
