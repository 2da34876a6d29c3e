-- When the connections of a worker went on: each does so at least every 50 milliseconds of its worker's moments, and has a Tick at least every 100.
use Rattle.std.specs.Prelude.{◌≡◌, ◌≢◌, ◌⊎◌, ℕ, ◌+◌, ◌-◌, ◌<◌, ◌≤◌, max, ⊤, List, [], Option, Some, None, All, slice_index_or}
use Rattle.conn_engine.specs.declared.phase.Opening.{Opening}
use Rattle.conn_service.specs.declared.served.Round.{Round}
use Rattle.conn_service.specs.Services.{ServiceState, opened, Describes}
use Rattle.worker_connections.specs.declared.sweeps.Sweeps.{Sweeps}

-- the connections of a worker go on at least every so many milliseconds
abbrev pub sweep_period : ℕ
sweep_period = 50

-- and have a Tick at least every so many
abbrev pub tick_bound : ℕ
tick_bound = 100

-- a worker waits no longer than until its connections, which all went on at `swept` or later, are to go on again
abbrev pub WaitsInTime : (pause now swept : ℕ) → Type 0
WaitsInTime pause now swept = (pause ≡ 0) ⊎ (pause + (now - swept) ≤ sweep_period)

-- by the worker's moment, its connections are not to go on yet
abbrev pub IsInTime : Sweeps → Type 0
IsInTime sweeps = sweeps.latest - sweeps.swept < sweep_period

-- the worker's moment is the latest that its poller told
abbrev pub looked : ℕ → Sweeps → Sweeps
looked now sweeps = record sweeps { latest = max sweeps.latest now }

-- a sweep of so many cells begins at the worker's moment; one of no cell is whole at once
abbrev pub Begins : (count : ℕ) → Sweeps → Sweeps → Type 0
Begins count old new =
    ((count ≡ 0) × (new ≡ record old { swept = old.latest; begun = old.latest; gone = 0 }))
    ⊎ ((count ≢ 0) × (new ≡ record old { begun = old.latest; gone = 0 }))

-- the connection in a cell, of so many, went on at the worker's moment, or the cell is free: after the last one that is lacking the sweep is whole
abbrev pub Notes : (cell count : ℕ) → Sweeps → Sweeps → Type 0
Notes cell count old new =
    ((cell ≢ old.gone) × (new ≡ old))
    ⊎ (((cell ≡ old.gone) × (cell + 1 < count) × (new ≡ record old { gone = cell + 1 }))
    ⊎ ((cell ≡ old.gone) × (count ≤ cell + 1) × (new ≡ record old { swept = old.begun; gone = 0 })))

-- where a sweep began at the worker's moment, the first `gone` of so many cells went on since, and after the last one it is whole
abbrev pub HasGone : (gone count : ℕ) → Sweeps → Type 0
HasGone gone count sweeps =
    ((gone < count) × (sweeps.gone ≡ gone) × (sweeps.begun ≡ sweeps.latest)) ⊎ ((count ≤ gone) × (sweeps.swept ≡ sweeps.latest))

-- the moment is the same, no sweep began, and whoever went on did so then or later
pub record KeepsMoment (old new : Sweeps) : Type 0 where
  pub latest : new.latest ≡ old.latest
  pub begun : new.begun ≡ old.begun
  pub swept : old.swept ≤ new.swept

module _ {P T : Type 0} where
  -- it was opened at this moment, or a round at it told what it waits for: where it does not wait to write, its latest Tick was then less than 50 milliseconds ago
  abbrev pub WentOnAt : ServiceState P T → ℕ → Type 0
  WentOnAt service moment =
      ((transport : T) × (opening : Opening) × (opening.at ≡ moment) × (service ≡ opened service.client.conn.number opening transport)) ⊎ ((round : Round) × Describes round service moment)

  -- the connection in a cell, where there is one, went on at this moment or later
  abbrev pub IfFreshSince : ℕ → Option (ServiceState P T) → Type 0
  IfFreshSince since None = ⊤
  IfFreshSince since (Some service) = (moment : ℕ) × (since ≤ moment) × WentOnAt service moment

  -- all connections went on at `swept` or later, and those in the first `gone` cells at `begun` or later
  pub record AreSwept (sweeps : Sweeps) (cells : List (Option (ServiceState P T))) : Type 0 where
    pub all : All (IfFreshSince sweeps.swept) cells
    pub some : (cell : ℕ) → cell < sweeps.gone → IfFreshSince sweeps.begun (slice_index_or cells cell None)
    pub swept : sweeps.swept ≤ sweeps.begun
    pub begun : sweeps.begun ≤ sweeps.latest

  -- the connection in a cell, where there is one, has ended, waits to write, or had a Tick, or was opened, less than 100 milliseconds before this moment
  abbrev pub IfTicked : ℕ → Option (ServiceState P T) → Type 0
  IfTicked moment None = ⊤
  IfTicked moment (Some service) = service.ending ≡ None → service.outgoing ≡ [] → moment - service.ticked < tick_bound

  -- each of them is
  abbrev pub AreTicked : ℕ → List (Option (ServiceState P T)) → Type 0
  AreTicked moment cells = All (IfTicked moment) cells
