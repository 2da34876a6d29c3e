-- How opened groups get a broker's name, and what is then whose.
use Rattle.std.specs.Prelude.{◌≡◌, ◌≤◌, ℕ, ◌+◌, ◌&&◌, nat_eq, if◌then◌else◌, List, [], ◌∷◌, ◌++◌, length, sum_by, slice_get, Some, All}
use Rattle.std.specs.Global.{Vec}
use Rattle.limits.specs.Limits.{most_groups}
use Rattle.gate_word.specs.Seats.{GateId}
use Rattle.group_queue.specs.Ports.{GroupId, PortState}
use Rattle.group_queue.specs.Places.{PlaceState, IsNewPlace}
use Rattle.broker_groups.specs.declared.opening.Opened.{Opened}
use Rattle.broker_groups.specs.Outs.{HasOut}
use Rattle.broker_groups.specs.Brokers.{AreBrokerGroups, IsBrokerPlace, IsBrokerPort}

-- rows of ports, those of one group each, a worker one, from the group of this slot on
pub record AreRows (group : ℕ → GroupId) (workers slot : ℕ) (rows : List (Vec PortState)) : Type 0 where
  pub many : (k : ℕ) (row : Vec PortState) → slice_get rows k ≡ Some row → length row.items ≡ workers
  pub its : (k : ℕ) (row : Vec PortState) → slice_get rows k ≡ Some row → All (IsBrokerPort group (slot + k)) row.items

-- nothing was sent through any of these ports
abbrev pub AreUnsent : List PortState → Type 0
AreUnsent ports = All (λ (port : PortState). port.sent ≡ []) ports

-- nothing is out at the place
abbrev pub HasNoneOut : PlaceState → Type 0
HasNoneOut place = HasOut place []

-- once where it is the place of this slot and this number
abbrev pub once_at : (slot number : ℕ) → PlaceState → ℕ
once_at slot number place = if nat_eq place.group slot && nat_eq place.number number then 1 else 0

-- these are places of a broker that were handed nothing, and no two have one slot and number
pub record AreNewPlacesOf (group : ℕ → GroupId) (places : List PlaceState) : Type 0 where
  pub new : All (λ (place : PlaceState). IsNewPlace (group place.group) place.number place) places
  pub once : (slot number : ℕ) → sum_by (once_at slot number) places ≤ 1

-- the places of all rows, row after row
abbrev pub in_a_row : List (Vec PlaceState) → List PlaceState
in_a_row [] = []
in_a_row (row ∷ rows) = row.items ++ in_a_row rows

-- what was opened is a broker's of this name, for so many workers
pub record IsOfBroker {W : Type 0} (gate : GateId) (group : ℕ → GroupId) (workers : ℕ) (opened : Opened W) : Type 0 where
  pub groups : AreBrokerGroups gate group opened.groups.items
  pub rows : length opened.ports.items ≡ most_groups
  pub ports : AreRows group workers 0 opened.ports.items
  pub unsent : All (λ (row : Vec PortState). AreUnsent row.items) opened.ports.items
  pub places : All (λ (row : Vec PlaceState). All (IsBrokerPlace group) row.items) opened.places.items
  pub fresh : All (λ (row : Vec PlaceState). All HasNoneOut row.items) opened.places.items
  pub new : AreNewPlacesOf group (in_a_row opened.places.items)

-- what the ports of all rows count for, and what those of all workers do
abbrev pub worth_of_rows : (PortState → ℕ) → List (Vec PortState) → ℕ
worth_of_rows worth rows = sum_by (λ (row : Vec PortState). sum_by worth row.items) rows

abbrev pub worth_of_all : (PortState → ℕ) → List (List PortState) → ℕ
worth_of_all worth all = sum_by (λ (ports : List PortState). sum_by worth ports) all

-- ports of the groups of the first slots, in the order of slots
pub record IsHand (group : ℕ → GroupId) (count : ℕ) (hand : Vec PortState) : Type 0 where
  pub many : length hand.items ≡ count
  pub each : (slot : ℕ) (port : PortState) → slice_get hand.items slot ≡ Some port → IsBrokerPort group slot port
