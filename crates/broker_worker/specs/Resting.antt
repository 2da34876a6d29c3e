-- When a worker waits: it told the others what it did, listens wherever a job could come that it would hand out, and goes on in time.
use Rattle.std.specs.Prelude.{◌≡◌, ◌⊎◌, ℕ, ◌<◌, ◌+◌, Bool, List, [], ◌∷◌, length}
use Rattle.limits.specs.Limits.{most_groups}
use Rattle.shared_supply.specs.Waking.{no_wakes}
use Rattle.shared_supply.specs.declared.wakes.Wakes.{Wakes}
use Rattle.worker_bells.specs.Ringing.{ListeningState, HasSettledAt, HearsAt, WorkerBellsState}
use Rattle.worker_connections.specs.Members.{HasTaker, one_called_if}
use Rattle.worker_connections.specs.Serving.{ConnectionsState, wakes_of, with_wakes}
use Rattle.worker_connections.specs.Sweeping.{WaitsInTime}

-- a worker: its connections, and what it has of the bells
pub record WorkerState (T : Type 0) : Type 0 where
  pub connections : ConnectionsState T
  pub bells : WorkerBellsState

-- a worker that waits for so long has told all that others may wait for; is idle at the bell of each group of which it has a member with room, and no bell rang there
-- between its listening and its settling; and goes on with its connections in time
pub record IsAtRest {T : Type 0} (pause : ℕ) (worker : WorkerState T) : Type 0 where
  pub told : wakes_of worker.connections ≡ no_wakes
  pub idle : (slot : ℕ) → slot < most_groups → HasTaker slot worker.connections.cells → HasSettledAt worker.bells.listenings slot
  pub in_time : WaitsInTime pause worker.connections.sweeps.latest worker.connections.sweeps.swept

-- it waits only where it is at rest
abbrev pub MayWait : {T : Type 0} → ℕ → WorkerState T → Type 0
MayWait pause worker = (pause ≡ 0) ⊎ IsAtRest pause worker

-- for the slots from this one on: where a ring was heard at the bell of the group, a call is counted, and nowhere else
abbrev pub CountsCalls : (slot : ℕ) → List Bool → List ListeningState → Wakes → List ListeningState → Wakes → Type 0
CountsCalls slot [] listenings wakes listenings' wakes' = (listenings' ≡ listenings) × (wakes' ≡ wakes)
CountsCalls slot (heard ∷ rest) listenings wakes listenings' wakes' =
    (between : List ListeningState) × HearsAt slot listenings heard between × CountsCalls (slot + 1) rest between (one_called_if heard slot wakes) listenings' wakes'

-- a worker hears at the bell of each group whether it rang while the worker was idle there, and counts for each that did that it was called
pub record HearsCalls {T : Type 0} (old new : WorkerState T) : Type 0 where
  pub heard : List Bool
  pub all : length heard ≡ 8
  pub counted : CountsCalls 0 heard old.bells.listenings (wakes_of old.connections) new.bells.listenings (wakes_of new.connections)
  pub connections : new.connections ≡ with_wakes old.connections (wakes_of new.connections)
  pub ringings : new.bells.ringings ≡ old.bells.ringings
