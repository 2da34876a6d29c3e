-- The walk over all jobs that makes a report. No public clause cites this module.
use Rattle.std.specs.Prelude.{◌≡◌, ℕ, ◌+◌, ◌*◌, ◌<◌, ◌⊎◌, List, [], ◌∷◌, length, Option, slice_index_or}
use Rattle.dispatch_core.specs.declared.event.Job.{Job}
use Rattle.dispatch_core.specs.declared.event.Spot.{Spot}
use Rattle.dispatch_core.specs.GroupState.{GroupState, spot_of, accepted_of}
use Rattle.dispatch_core.specs.JobRuns.{count_of}
use Rattle.group_jobs.specs.declared.fate.Fate.{Fate}
use Rattle.group_jobs.specs.Settled.{settled_as}
use Rattle.local_group.specs.declared.report.Tally.{Tally}
use Rattle.group_jobs.specs.Spots.{times_out, times_settled}

-- the job is of an earlier port, or of this one with a smaller number
abbrev pub IsBefore : ℕ → ℕ → Job → Type 0
IsBefore port number job = (job.port < port) ⊎ ((job.port ≡ port) × (job.number < number))

-- the list has each job before as often as its spot says, and no other
pub record ListsBefore (times : Option Spot → ℕ) (state : GroupState) (port number : ℕ) (jobs : List Job) : Type 0 where
  pub before : (job : Job) → IsBefore port number job → count_of job jobs ≡ times (spot_of state job)
  pub others : (job : Job) → ¬ IsBefore port number job → count_of job jobs ≡ 0

-- what was counted of the jobs before
pub record Tallies (state : GroupState) (port number : ℕ) (tally : Tally) : Type 0 where
  pub held : ListsBefore times_out state port number tally.held.items
  pub settled : (fate : Fate) → ListsBefore (times_settled fate) state port number (settled_as fate tally.settled)

-- how many each port before accepted
pub record AreAccepted (state : GroupState) (port : ℕ) (accepted : List ℕ) : Type 0 where
  pub many : length accepted ≡ port
  pub each : (other : ℕ) → other < port → slice_index_or accepted other 0 ≡ accepted_of state other

-- a job goes to the list as often as its spot says
abbrev pub Gains : ℕ → Job → List Job → List Job → Type 0
Gains often job old new = (other : Job) → count_of other new ≡ often * count_of other (job ∷ []) + count_of other old

-- a job at this spot was counted
pub record Counts (spot : Option Spot) (job : Job) (old new : Tally) : Type 0 where
  pub accepted : new.accepted.items ≡ old.accepted.items
  pub held : Gains (times_out spot) job old.held.items new.held.items
  pub settled : (fate : Fate) → Gains (times_settled fate spot) job (settled_as fate old.settled) (settled_as fate new.settled)
