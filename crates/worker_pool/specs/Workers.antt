-- What the workers of a pool do, from the first connection to the last.
use Rattle.std.specs.Prelude.{◌≡◌, ◌*◌, ℕ, List, length, All}
use Rattle.conn_channel.specs.Ends.{ChannelId}
use Rattle.shared_routes.specs.Cells.{RoutesId}
use Rattle.broker_worker.specs.Parts.{AllAt}
use Rattle.broker_worker.specs.Resting.{WorkerState}
use Rattle.worker_connections.specs.Arrivals.{ArrivedState}
use Rattle.worker_connections.specs.Serving.{IsDone, StaysOf, Ties, ties_of}

module _ {T : Type 0} where
  -- what stays as it is of a worker, where that is of this channel and this table of the routes, and has one part of the right to call the desk
  abbrev pub hired_by : ChannelId (ArrivedState T) → RoutesId → Ties T → Ties T
  hired_by channel table ties = record ties { channel = channel; table = table; parts = 1 }

  -- a worker is of these, and has that part
  abbrev pub IsHired : ChannelId (ArrivedState T) → RoutesId → WorkerState T → Type 0
  IsHired channel table worker = ties_of worker.connections ≡ hired_by channel table (ties_of worker.connections)

  -- it did what it does to its end
  abbrev pub HasRun : WorkerState T → WorkerState T → Type 0
  HasRun old new = StaysOf old.connections new.connections × IsDone new.connections

  -- such a worker that has ended
  abbrev pub HasServed : ChannelId (ArrivedState T) → RoutesId → WorkerState T → Type 0
  HasServed channel table worker = IsHired channel table worker × IsDone worker.connections

  -- the worker of this number: it has so many cells, and those before it have as many, so that no two connections have the same number
  abbrev pub IsNumbered : (share : ℕ) → ℕ → WorkerState T → Type 0
  IsNumbered share number worker = (worker.connections.first ≡ number * share) × (length worker.connections.cells ≡ share)

  -- these are the workers of a broker, in the order of their numbers
  abbrev pub AreNumbered : (share : ℕ) → List (WorkerState T) → Type 0
  AreNumbered share workers = AllAt (IsNumbered share) 0 workers

  -- each of them did: where all belonged to the same, all do that have ended; and their connections have the same numbers
  pub record HaveRun (old new : List (WorkerState T)) : Type 0 where
    pub count : length new ≡ length old
    pub served : (channel : ChannelId (ArrivedState T)) (table : RoutesId) → All (IsHired channel table) old → All (HasServed channel table) new
    pub numbered : (share : ℕ) → AreNumbered share old → AreNumbered share new
