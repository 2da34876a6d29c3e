-- The numbers under which the connections of a worker's run ask the desk.
use Rattle.std.specs.Prelude.{◌≡◌, ℕ, ◌+◌, List, ◌++◌, Option, Some, slice_get}
use Rattle.transport.specs.declared.counts.Counts.{Counts}
use Rattle.group_queue.specs.Ports.{GroupId}
use Rattle.group_queue.specs.Places.{PlaceState}
use Rattle.broker_groups.specs.Answers.{Sights}
use Rattle.conn_service.specs.Services.{ServiceState}
use Rattle.worker_connections.specs.Chains.{Deed, MakesAll, Run, RunState}

-- each connection has the number of its cell, from the first one on
abbrev pub AreNumberedFrom : {T : Type 0} → ℕ → List (Option (ServiceState PlaceState T)) → Type 0
AreNumberedFrom {T} first cells = (cell : ℕ) (service : ServiceState PlaceState T) → slice_get cells cell ≡ Some (Some service) → service.client.conn.number ≡ first + cell

module _ {T : Type 0} (group : ℕ → GroupId) (seen : Sights) (counts : T → Counts) (given accepted : T → Option (List ℕ)) where
  -- **No two connections of a worker that are open have the same number**: at each state of its run, each has that of its cell
  pub record KeepsNumbers (run : Run T) : Type 0 where
    pub kept : (these those : List (Deed T)) (mid : RunState T) → run.deeds ≡ these ++ those → MakesAll group seen counts given accepted these run.first mid
        → AreNumberedFrom run.last.first mid.cells
