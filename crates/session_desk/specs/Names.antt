-- The names that a desk gives to clients without an identifier (3.1.3.1, profile).
use Rattle.std.specs.Prelude.{◌≡◌, ℕ, ◌+◌, ◌/◌, ◌%◌, ◌<◌, ◌≤◌, List, [], ◌∷◌, ◌++◌, map, codes}
use Rattle.session_desk.specs.declared.row.Row.{Row}
use Rattle.session_desk.specs.Rows.{Rows, HasRow}

-- what the digits of a name count
abbrev pub places : List ℕ
places = 10000000 ∷ 1000000 ∷ 100000 ∷ 10000 ∷ 1000 ∷ 100 ∷ 10 ∷ 1 ∷ []

-- `auto-` and the number in eight digits
abbrev pub assigned_name : ℕ → List ℕ
assigned_name number = codes "auto-" ++ map (λ place. 48 + number / place % 10) places

-- some row is of this client
abbrev pub HasName : {E P : Type 0} → Rows E P → List ℕ → Type 0
HasName {E} {P} rows client = (number : ℕ) × (row : Row E P) × HasRow rows number row × (row.client ≡ client)

-- the number of the next name: the least above all that were given whose name no row has
pub record IsNextName {E P : Type 0} (rows : Rows E P) (assigned number : ℕ) : Type 0 where
  pub above : assigned < number
  pub last : number ≤ 99999999
  pub unused : ¬ HasName rows (assigned_name number)
  pub least : (other : ℕ) → assigned < other → other < number → HasName rows (assigned_name other)

-- a row has each name that was not given
abbrev pub NoNameLeft : {E P : Type 0} → Rows E P → ℕ → Type 0
NoNameLeft rows assigned = (number : ℕ) → assigned < number → number ≤ 99999999 → HasName rows (assigned_name number)
