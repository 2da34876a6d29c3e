-- The free places of up to eight groups, 32 of each: a cell for each place, by its group's slot and its number.
use Rattle.std.specs.Prelude.{◌≡◌, ℕ, ◌+◌, ◌*◌, ◌<◌, List, Option, Some, None, slice_get, slice_set}
use Rattle.limits.specs.Limits.{most_members}

-- where the cell of a place lies
abbrev pub cell_at : ℕ → ℕ → ℕ
cell_at slot number = most_members * slot + number

-- this place is free in that cell
abbrev pub IsFreeAt : {P : Type 0} → List (Option P) → ℕ → P → Type 0
IsFreeAt free cell place = slice_get free cell ≡ Some (Some place)

-- no place of the group with this slot is free
abbrev pub NoneFree : {P : Type 0} → List (Option P) → ℕ → Type 0
NoneFree {P} free slot = (number : ℕ) (place : P) → number < most_members → ¬ IsFreeAt free (cell_at slot number) place

-- the cell of the least free place of the group with this slot
pub record IsLeast {P : Type 0} (free : List (Option P)) (slot cell : ℕ) : Type 0 where
  pub number : ℕ
  pub small : number < most_members
  pub at : cell ≡ cell_at slot number
  pub place : P
  pub is_free : IsFreeAt free cell place
  pub least : (smaller : ℕ) (other : P) → smaller < number → ¬ IsFreeAt free (cell_at slot smaller) other

-- the least free place of the group with this slot is lent, where one is free
abbrev pub LendsPlace : {P : Type 0} → List (Option P) → ℕ → Option P → List (Option P) → Type 0
LendsPlace {P} old slot (Some place) new =
    (cell : ℕ) × (least : IsLeast old slot cell) × (place ≡ least.place) × (new ≡ slice_set old cell None)
LendsPlace old slot None new = NoneFree old slot × (new ≡ old)

-- a place is free again, unless its cell is taken: then it is handed back
abbrev pub TakesPlace : {P : Type 0} → List (Option P) → ℕ → P → Option P → List (Option P) → Type 0
TakesPlace old cell place None new = (slice_get old cell ≡ Some None) × (new ≡ slice_set old cell (Some place))
TakesPlace {P} old cell place (Some back) new = (back ≡ place) × ((other : P) × IsFreeAt old cell other) × (new ≡ old)

-- this place's own cell is this one
pub record IsOwnCell {P : Type 0} (slot_of number_of : P → ℕ) (cell : ℕ) (place : P) : Type 0 where
  pub at : cell ≡ cell_at (slot_of place) (number_of place)
  pub small : number_of place < most_members

-- each free place lies in the cell of its own slot and number
abbrev pub LieInOwnCells : {P : Type 0} → (P → ℕ) → (P → ℕ) → List (Option P) → Type 0
LieInOwnCells {P} slot_of number_of free = (cell : ℕ) (place : P) → IsFreeAt free cell place → IsOwnCell slot_of number_of cell place

-- a place of the group with this slot, one of 32
pub record IsOfSlot {P : Type 0} (slot_of number_of : P → ℕ) (slot : ℕ) (place : P) : Type 0 where
  pub its : slot_of place ≡ slot
  pub small : number_of place < most_members
