-- Which gate, groups, ports and places are one broker's.
use Rattle.std.specs.Prelude.{◌≡◌, ℕ, ◌<◌, List, [], length, slice_get, Some}
use Rattle.std.proofs.Common.{Global}
use Rattle.limits.specs.Limits.{most_groups, most_members}
use Rattle.atomic_table.specs.Seated.{TableId}
use Rattle.gate_word.specs.Seats.{GateId}
use Rattle.group_queue.specs.Ports.{GroupId, PortState, IsPortOf}
use Rattle.group_queue.specs.Places.{PlaceState, IsPlaceOf}

-- the gate and the group of a broker that nobody opened
abbrev pub no_table : TableId
no_table = record { words = 0; slots = 0; views_name = 0; atom = 0; block = 0; offset = 0; slot_names = [] }

abbrev pub no_heap : Global
no_heap = record { memory = record { seal = tt } }

abbrev pub no_gate : GateId
no_gate = record { word = no_table; seats = 0 }

abbrev pub no_group : GroupId
no_group = record {
  slot = 0;
  shape = record { ports = 0; places = 0 };
  capacity = 0;
  gate = no_gate;
  main = no_table;
  returns = record { web = (0, 0); heap = no_heap };
  ledger = no_table;
}

-- these are a broker's groups, one for each slot, in the order of slots, behind its gate
pub record AreBrokerGroups (gate : GateId) (group : ℕ → GroupId) (groups : List GroupId) : Type 0 where
  pub all : length groups ≡ most_groups
  pub each : (slot : ℕ) (it : GroupId) → slice_get groups slot ≡ Some it → (it ≡ group slot) × (it.slot ≡ slot) × (it.gate ≡ gate)

-- it is a place of the broker's group of its slot
pub record IsBrokerPlace (group : ℕ → GroupId) (place : PlaceState) : Type 0 where
  pub slot : place.group < most_groups
  pub number : place.number < most_members
  pub of : IsPlaceOf (group place.group) place

-- it is a port of the broker's group of this slot
abbrev pub IsBrokerPort : (ℕ → GroupId) → ℕ → PortState → Type 0
IsBrokerPort group slot port = (port.group ≡ slot) × IsPortOf (group slot) port

-- these are ports of a broker, one of each group, in the order of slots
pub record AreBrokerPorts (group : ℕ → GroupId) (ports : List PortState) : Type 0 where
  pub all : length ports ≡ most_groups
  pub each : (slot : ℕ) (port : PortState) → slice_get ports slot ≡ Some port → IsBrokerPort group slot port
