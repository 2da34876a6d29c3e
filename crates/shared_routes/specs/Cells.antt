-- What a worker knows of the cells of the table.
use Rattle.std.specs.Prelude.{ℕ, map, List, [], ◌∷◌, Option, Some, None}
use Rattle.mqtt_topic.specs.Names.{Share}
use Rattle.shared_routes.specs.declared.new_shares.NewShares.{NewShares}

-- a table: the names of its cells, which no other table has, and what it does with a share that nobody declared
pub record RoutesId : Type 0 where
  pub cells : List ℕ
  pub new_shares : NewShares

-- a cell of this name, and the share that stands in it, where it is known
pub record CellState : Type 0 where
  pub name : ℕ
  pub share : Option Share

-- a cell of which nothing is known
abbrev pub unknown : ℕ → CellState
unknown name = record { name = name; share = None }

abbrev pub names_of : List CellState → List ℕ
names_of cells = map (λ cell. cell.name) cells

-- the first ones, up to one that is not known
abbrev pub first_of : List (Option Share) → List Share
first_of [] = []
first_of (None ∷ others) = []
first_of (Some share ∷ others) = share ∷ first_of others

-- the shares of the first cells, up to one of which nothing is known
abbrev pub known_of : List CellState → List Share
known_of cells = first_of (map (λ cell. cell.share) cells)
