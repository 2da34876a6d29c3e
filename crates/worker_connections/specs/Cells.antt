-- The connections of a worker, each in a cell: what happens to one of them.
use Rattle.std.specs.Prelude.{◌≡◌, ℕ, Bool, cond, List, Option, Some, None, is_some, slice_get, slice_set, count_by, MatchOption}
use Rattle.transport.specs.declared.counts.Counts.{Counts}
use Rattle.conn_supply.specs.SupplyCalls.{SupplyCall}
use Rattle.conn_engine.specs.Looking.{TakesAt, held_by}
use Rattle.conn_engine.specs.declared.phase.Opening.{Opening}
use Rattle.conn_engine.specs.Phases.{IsWaiting}
use Rattle.conn_service.specs.declared.served.Round.TheVariants as rounds
use Rattle.conn_service.specs.Services.{ServiceState, opened, Describes}
use Rattle.conn_service.specs.declared.served.Direction.{Direction}
use Rattle.conn_service.specs.Directions.{Follows}
use Rattle.conn_service.specs.Lives.{Rounds}
use Rattle.worker_connections.specs.declared.cell_outcome.CellOutcome.{CellOutcome}
use Rattle.worker_connections.specs.declared.cell_outcome.CellOutcome.TheVariants.{Vacant, Goes, Ended}

-- the cell becomes another, and the others stay
pub record InCell {P T : Type 0} (old : List (Option (ServiceState P T))) (cell : ℕ)
    (Becomes : Option (ServiceState P T) → Option (ServiceState P T) → Type 0) (new : List (Option (ServiceState P T))) : Type 0 where
  pub before : Option (ServiceState P T)
  pub after : Option (ServiceState P T)
  pub has : slice_get old cell ≡ Some before
  pub becomes : Becomes before after
  pub is : new ≡ slice_set old cell after

-- how many connections a cell has, none or one; and how many these cells have
abbrev pub taken : {A : Type 0} → Option A → ℕ
taken cell = cond (is_some cell) 1 0

abbrev pub occupied : {A : Type 0} → List (Option A) → ℕ
occupied cells = count_by is_some cells

-- how many connections a round ended, none or one
abbrev pub ended_by : {T : Type 0} → CellOutcome T → ℕ
ended_by Vacant = 0
ended_by (Goes round) = 0
ended_by (Ended served transport) = 1

-- the connection of this number was opened so
abbrev pub IsOpened : {P T : Type 0} → ℕ → Opening → T → Option (ServiceState P T) → Type 0
IsOpened number opening transport None = ⊥
IsOpened number opening transport (Some service) = service ≡ opened number opening transport

-- it is opened in a free cell
abbrev pub Opens : {P T : Type 0} → ℕ → Opening → T → Option (ServiceState P T) → Option (ServiceState P T) → Type 0
Opens number opening transport before after = (before ≡ None) × IsOpened number opening transport after

-- none is: the transport comes back
abbrev pub Refuses : {P T : Type 0} → T → Option (ServiceState P T) → Option (ServiceState P T) → T → Type 0
Refuses transport before after back = (after ≡ before) × (back ≡ transport)

-- what a round tells of the connection after it, and what is in its cell then
abbrev pub Tells : {P T : Type 0} → CellOutcome T → ServiceState P T → ℕ → Option (ServiceState P T) → Type 0
Tells Vacant service now after = ⊥
Tells (Goes round) service now after = Describes round service now × (after ≡ Some service)
Tells (Ended served transport) service now after = Describes (rounds.Ended served) service now × (transport ≡ service.transport) × (after ≡ None)

-- the connection in a cell, where there is one, went by a round the way that it was told
abbrev pub FollowsIn : {P T : Type 0} → (T → Option (List ℕ)) → (T → Option (List ℕ)) → Direction → ℕ → Option (ServiceState P T) → CellOutcome T → Option (ServiceState P T) → Type 0
FollowsIn given accepted direction now None cell_outcome after = Unit {0}
FollowsIn {P} {T} given accepted direction now (Some service) cell_outcome after =
    (behind : ServiceState P T) × Tells cell_outcome behind now after × Follows given accepted direction now service behind

-- the slot of the group that the client in a cell would be handed a message of now; a free cell has none
abbrev pub TakesFrom : {P T : Type 0} → (P → ℕ) → Option (ServiceState P T) → Option ℕ → Type 0
TakesFrom slot_of None slot = slot ≡ None
TakesFrom {P} slot_of (Some service) slot =
    MatchOption slot ((place : P) → ¬ TakesAt service.client.conn.phase place)
    (λ slot. (place : P) × TakesAt service.client.conn.phase place × (slot_of place ≡ slot))

-- how many messages the client in a cell has not acknowledged
abbrev pub held_in : {P T : Type 0} → Option (ServiceState P T) → ℕ
held_in None = 0
held_in (Some service) = held_by service.client.conn.phase

-- a client is in a cell, and waits for its session
abbrev pub Waits : {P T : Type 0} → Option (ServiceState P T) → Type 0
Waits None = ⊥
Waits (Some service) = IsWaiting service.client.conn.phase

module _ {S P T : Type 0} (call : S → SupplyCall P → S → Type 0) (begins ends : S → S → Type 0) (visiting : S → Bool) (slot_of : P → ℕ)
    (counts : T → Counts) (given accepted : T → Option (List ℕ)) where
  -- the connection in a cell goes on by a round, where there is one
  abbrev pub Turns : ℕ → Option (ServiceState P T) → S → CellOutcome T → Option (ServiceState P T) → S → Type 0
  Turns now None supply cell_outcome after supply' = (cell_outcome ≡ Vacant) × (after ≡ None) × (supply' ≡ supply)
  Turns now (Some service) supply cell_outcome after supply' =
      (behind : ServiceState P T) × Rounds call begins ends visiting slot_of counts given accepted now service supply behind supply' × Tells cell_outcome behind now after
