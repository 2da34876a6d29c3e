-- What holds of each act of a worker's run, at the very states at which it is made.
use Rattle.std.specs.Prelude.{◌≡◌, ℕ, List, [], ◌∷◌, Option, Some, ⊤}
use Rattle.transport.specs.declared.counts.Counts.{Counts}
use Rattle.group_queue.specs.Ports.{GroupId}
use Rattle.group_queue.specs.Places.{PlaceState}
use Rattle.broker_groups.specs.Answers.{Sights}
use Rattle.conn_service.specs.Acts.{Act}
use Rattle.conn_service.specs.Lives.{Does}
use Rattle.conn_service.specs.Services.{ServiceState}
use Rattle.shared_supply.specs.Calls.{Calls}
use Rattle.shared_supply.specs.Workers.{Worker, Begins, Leaves, is_visiting}
use Rattle.worker_connections.specs.Cells.{InCell}
use Rattle.worker_connections.specs.Chains.{Deed, MadeRound, LeavesCell, RunState}

module _ {T : Type 0} (group : ℕ → GroupId) (seen : Sights) (counts : T → Counts) (given accepted : T → Option (List ℕ))
    (Holds : Act → ServiceState PlaceState T → Worker → ServiceState PlaceState T → Worker → Type 0) where
  -- of each of these acts of a connection, one after the other: beside what the act makes of the connection and of its worker
  abbrev pub EachAct : List Act → ServiceState PlaceState T → Worker → ServiceState PlaceState T → Worker → Type 0
  EachAct [] old supply new supply' = (new ≡ old) × (supply' ≡ supply)
  EachAct (act ∷ acts) old supply new supply' =
      (between : ServiceState PlaceState T) × (mid : Worker)
      × Does (Calls group seen) Begins Leaves is_visiting (λ (p : PlaceState). p.group) counts given accepted act old supply between mid
      × Holds act old supply between mid × EachAct acts between mid new supply'

  -- of each act of a deed, where that is a round
  abbrev pub EachActOf : Deed T → RunState T → RunState T → Type 0
  EachActOf (MadeRound cell now acts how) old new =
      InCell old.cells cell
      (λ before after. (service behind : ServiceState PlaceState T) × (before ≡ Some service) × EachAct acts service old.supply behind new.supply × LeavesCell how behind after)
      new.cells
  EachActOf _ old new = ⊤
