-- The members among the connections of a worker: who would be handed a job, and the calls of others that are counted for them.
use Rattle.std.specs.Prelude.{◌≡◌, ℕ, Bool, true, false, List, Option, Some, slice_get}
use Rattle.group_queue.specs.Places.{PlaceState}
use Rattle.conn_engine.specs.Looking.{TakesAt}
use Rattle.conn_service.specs.Services.{ServiceState}
use Rattle.shared_supply.specs.Waking.{one_called}
use Rattle.shared_supply.specs.declared.wakes.Wakes.{Wakes}
use Rattle.worker_bells.specs.declared.members.Interest.{Interest}

-- the client in one of these cells is a member of the group of a slot, and there is room for a job
pub record HasTaker {T : Type 0} (slot : ℕ) (cells : List (Option (ServiceState PlaceState T))) : Type 0 where
  pub cell : ℕ
  pub service : ServiceState PlaceState T
  pub place : PlaceState
  pub here : slice_get cells cell ≡ Some (Some service)
  pub takes : TakesAt service.client.conn.phase place
  pub group : place.group ≡ slot

-- the client in this very cell is one
pub record TakesIn {T : Type 0} (slot cell : ℕ) (cells : List (Option (ServiceState PlaceState T))) : Type 0 where
  pub service : ServiceState PlaceState T
  pub place : PlaceState
  pub here : slice_get cells cell ≡ Some (Some service)
  pub takes : TakesAt service.client.conn.phase place
  pub group : place.group ≡ slot

-- each of them stands among the wishes
abbrev pub AreWished : {T : Type 0} → List (Option (ServiceState PlaceState T)) → List Interest → Type 0
AreWished {T} cells interests =
    (cell : ℕ) (service : ServiceState PlaceState T) (place : PlaceState) → slice_get cells cell ≡ Some (Some service) → TakesAt service.client.conn.phase place
    → (interest : Interest) × (slice_get interests cell ≡ Some interest) × (interest.takes ≡ Some place.group)

-- one call more where a ring was heard
abbrev pub one_called_if : Bool → ℕ → Wakes → Wakes
one_called_if true slot wakes = one_called slot wakes
one_called_if false slot wakes = wakes
