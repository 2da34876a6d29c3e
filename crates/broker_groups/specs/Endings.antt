-- The end of a broker's groups: each is ended with what is its own.
use Rattle.std.specs.Prelude.{◌≡◌, ℕ, ◌<◌, min, List, [], ◌∷◌, ◌++◌, length, slice_get, Some, All, Result, IfErr}
use Rattle.std.specs.Global.{Vec}
use Rattle.limits.specs.Limits.{most_groups}
use Rattle.group_jobs.specs.Stamps.{Held}
use Rattle.group_jobs.specs.declared.report.Report.{Report}
use Rattle.group_queue.specs.declared.finish.Unfinished.{Unfinished}
use Rattle.group_queue.specs.Ports.{GroupId, PortState, IsPortOf}
use Rattle.group_queue.specs.Places.{PlaceState, IsPlaceOf}
use Rattle.group_queue.specs.Finishing.{Finishes}
use Rattle.broker_groups.specs.Sorting.{at_slot}

-- the ports of all workers, a worker's after another's
abbrev pub joined : List (List PortState) → List PortState
joined [] = []
joined (ports ∷ others) = ports ++ joined others

-- the slot of a port's and of a place's group, and of a message's; 8 where a message is of no group
abbrev pub port_slot : PortState → ℕ
port_slot port = port.group

abbrev pub place_slot : PlaceState → ℕ
place_slot place = place.group

abbrev pub held_slot : Held → ℕ
held_slot envelope = min envelope.stamp.group most_groups

-- it is a place of the group of this slot
abbrev pub IsPlaceAt : (ℕ → GroupId) → ℕ → PlaceState → Type 0
IsPlaceAt group slot place = IsPlaceOf (group slot) place

-- whatever it is
abbrev pub IsAny : ℕ → Held → Type 0
IsAny slot envelope = Unit {0}

-- each group was ended with its own ports, places and messages
pub record AreEnded {W : Type 0} (group : ℕ → GroupId) (ports : List (List PortState)) (places : List PlaceState) (held : List Held) (answers : List (Result Report (Unfinished W))) : Type 0 where
  pub all : length answers ≡ most_groups
  -- the group of a slot has the number of that slot
  pub slots : (slot : ℕ) → slot < most_groups → (group slot).slot ≡ slot
  pub each : (slot : ℕ) (answer : Result Report (Unfinished W)) → slice_get answers slot ≡ Some answer
      → Finishes (group slot) (at_slot port_slot slot (joined ports)) (at_slot place_slot slot places) (at_slot held_slot slot held) answer

-- each group was ended with the row of its slot
pub record AreFinished {W : Type 0} (group : ℕ → GroupId) (ports : List (Vec PortState)) (places : List (Vec PlaceState)) (held : List (Vec Held)) (answers : List (Result Report (Unfinished W))) : Type 0 where
  pub all : length answers ≡ most_groups
  pub each : (slot : ℕ) (answer : Result Report (Unfinished W)) (its_ports : Vec PortState) (its_places : Vec PlaceState) (its_held : Vec Held)
      → slice_get answers slot ≡ Some answer → slice_get ports slot ≡ Some its_ports → slice_get places slot ≡ Some its_places → slice_get held slot ≡ Some its_held
      → Finishes (group slot) its_ports.items its_places.items its_held.items answer

-- the ports and places of a group that was not ended are that group's
abbrev pub IsItsOwn : {W : Type 0} → Result Report (Unfinished W) → Type 0
IsItsOwn answer = IfErr answer (λ left. All (IsPortOf left.group) left.ports.items × All (IsPlaceOf left.group) left.places.items)

-- whatever group it was ended and whatever it was ended with: if this is its answer, so is that
abbrev pub IsAgain : {W : Type 0} → Result Report (Unfinished W) → Result Report (Unfinished W) → Type 0
IsAgain first last =
    (group : GroupId) (ports : List PortState) (places : List PlaceState) (held : List Held) → Finishes group ports places held first → Finishes group ports places held last

-- the same of each group
pub record AreAgain {W : Type 0} (first last : List (Result Report (Unfinished W))) : Type 0 where
  pub all : length last ≡ length first
  pub each : (slot : ℕ) (answer again : Result Report (Unfinished W)) → slice_get first slot ≡ Some answer → slice_get last slot ≡ Some again → IsAgain answer again
