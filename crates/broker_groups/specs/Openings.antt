-- A broker's groups as they are opened, and what they are under a broker's name.
use Rattle.std.specs.Prelude.{◌≡◌, ℕ, List, length, slice_get, Option, Some, None, All}
use Rattle.std.specs.Global.{Vec}
use Rattle.limits.specs.Limits.{most_groups, most_members}
use Rattle.gate_word.specs.Seats.{GateId}
use Rattle.group_queue.specs.Ports.{GroupId, PortState, IsPortOf, AreNewPorts}
use Rattle.group_queue.specs.Places.{PlaceState, IsPlaceOf, AreNewPlaces}
use Rattle.broker_groups.specs.declared.opening.Opened.{Opened}
use Rattle.broker_groups.specs.Brokers.{no_group}

-- a group of this slot behind this gate, for so many workers
pub record IsOpened (gate : GateId) (capacity workers slot : ℕ) (group : GroupId) : Type 0 where
  pub slot_is : group.slot ≡ slot
  pub gate_is : group.gate ≡ gate
  pub capacity_is : group.capacity ≡ capacity
  pub ports_are : group.shape.ports ≡ workers
  pub places_are : group.shape.places ≡ most_members

-- all ports of a group, a worker one, which sent nothing
pub record HasPorts (workers : ℕ) (group : GroupId) (ports : List PortState) : Type 0 where
  pub new : AreNewPorts group workers ports
  pub its : All (IsPortOf group) ports

-- all places of a group, which were handed nothing
pub record HasPlaces (group : GroupId) (places : List PlaceState) : Type 0 where
  pub new : AreNewPlaces group 32 places
  pub its : All (IsPlaceOf group) places

-- so many groups were opened, from slot 0 on, each with all of its ports and places
pub record AreOpened (gate : GateId) (capacity workers count : ℕ) (groups : List GroupId) (ports : List (Vec PortState)) (places : List (Vec PlaceState)) : Type 0 where
  pub groups_many : length groups ≡ count
  pub ports_many : length ports ≡ count
  pub places_many : length places ≡ count
  pub each : (slot : ℕ) (group : GroupId) → slice_get groups slot ≡ Some group → IsOpened gate capacity workers slot group
  pub ports_each : (slot : ℕ) (group : GroupId) (row : Vec PortState) → slice_get groups slot ≡ Some group → slice_get ports slot ≡ Some row → HasPorts workers group row.items
  pub places_each : (slot : ℕ) (group : GroupId) (row : Vec PlaceState) → slice_get groups slot ≡ Some group → slice_get places slot ≡ Some row → HasPlaces group row.items

-- all eight
abbrev pub IsBrokerOpened : {W : Type 0} → GateId → ℕ → ℕ → Opened W → Type 0
IsBrokerOpened gate capacity workers opened = AreOpened gate capacity workers most_groups opened.groups.items opened.ports.items opened.places.items

-- the name that a list of groups gives: the group of each slot
abbrev pub or_none : Option GroupId → GroupId
or_none (Some group) = group
or_none None = no_group

abbrev pub named_by : List GroupId → ℕ → GroupId
named_by groups slot = or_none (slice_get groups slot)
