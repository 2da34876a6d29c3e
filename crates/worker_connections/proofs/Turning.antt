-- What a round makes of a cell, from what it makes of the connection in it.
use Rattle.std.proofs.Common.{◌≡◌, ℕ, Bool, List, Option, Some, subst, sym}
use Rattle.transport.specs.declared.counts.Counts.{Counts}
use Rattle.conn_supply.specs.SupplyCalls.{SupplyCall}
use Rattle.conn_service.specs.Services.{ServiceState}
use Rattle.conn_service.specs.declared.served.Direction.{Direction}
use Rattle.conn_service.specs.Directions.{Follows}
use Rattle.conn_service.specs.Lives.{Rounds}
use Rattle.worker_connections.specs.declared.cell_outcome.CellOutcome.{CellOutcome}
use Rattle.worker_connections.specs.Cells.{FollowsIn, Tells, Turns}

module _ {S P T : Type 0} (call : S → SupplyCall P → S → Type 0) (begins ends : S → S → Type 0) (visiting : S → Bool) (slot_of : P → ℕ)
    (counts : T → Counts) (given accepted : T → Option (List ℕ)) where
  -- a connection in it turns
  pub turns : (now : ℕ) (before : Option (ServiceState P T)) (service behind : ServiceState P T) (supply supply' : S) (cell_outcome : CellOutcome T)
      (after : Option (ServiceState P T)) → before ≡ Some service → Rounds call begins ends visiting slot_of counts given accepted now service supply behind supply'
      → Tells cell_outcome behind now after → Turns call begins ends visiting slot_of counts given accepted now before supply cell_outcome after supply'
  turns now before service behind supply supply' cell_outcome after has led tells =
      let Holds : Option (ServiceState P T) → Type 0 = λ before. Turns call begins ends visiting slot_of counts given accepted now before supply cell_outcome after supply' in
      subst Holds (sym has) (behind, led, tells)

-- it goes the way that it is told
pub follows : {P T : Type 0} (given accepted : T → Option (List ℕ)) (direction : Direction) (now : ℕ) (before : Option (ServiceState P T)) (service behind : ServiceState P T)
    (cell_outcome : CellOutcome T) (after : Option (ServiceState P T)) → before ≡ Some service → Follows given accepted direction now service behind → Tells cell_outcome behind now after
    → FollowsIn given accepted direction now before cell_outcome after
follows {P} {T} given accepted direction now before service behind cell_outcome after has way tells =
    let Holds : Option (ServiceState P T) → Type 0 = λ before. FollowsIn given accepted direction now before cell_outcome after in
    subst Holds (sym has) (behind, tells, way)
