-- How a group keeps its lists beside its state. No public clause cites this module.
use Rattle.std.specs.Prelude.{◌≡◌, ℕ, ◌+◌, ◌<◌, ◌≤◌, List, [], ◌∷◌, length, Option, Some, None, IsSome, if◌then◌else◌}
use Rattle.limits.specs.Limits.{most_members, most_ports}
use Rattle.dispatch_core.specs.declared.event.Job.{Job}
use Rattle.dispatch_core.specs.declared.event.Event.{Event}
use Rattle.dispatch_core.specs.declared.event.Spot.TheVariants.{Held}
use Rattle.dispatch_core.specs.GroupState.{GroupState, spot_of}
use Rattle.dispatch_core.specs.History.{IsRun}
use Rattle.dispatch_core.specs.Lawful.{RisesByPort}
use Rattle.local_group.specs.declared.waiting.Waiting.{Waiting}
use Rattle.local_group.specs.Spots.{jobs_in}
use Rattle.group_jobs.specs.Spots.{times_queued, times_out, times_returned, Lists}

-- the job in front of the list, if there is one
abbrev pub front_of : List Waiting → Option Job
front_of [] = None
front_of (waiting ∷ others) = Some waiting.job

-- so many jobs are out
pub record Outs (state : GroupState) (count : ℕ) : Type 0 where
  pub jobs : List Job
  pub out : Lists times_out state jobs
  pub many : length jobs ≡ count

-- the ports and places that a state names are there
pub record IsRanged (state : GroupState) : Type 0 where
  pub ports : (job : Job) → IsSome (spot_of state job) → job.port < most_ports
  pub places : (job : Job) (place : ℕ) → spot_of state job ≡ Some (Held place) → place < most_members

-- what a group keeps from call to call
pub record IsKept (state : GroupState) (events : List Event) (queue returned : List Waiting) (out : ℕ) : Type 0 where
  pub run : IsRun events state
  pub ranged : IsRanged state
  pub queued : Lists times_queued state (jobs_in queue)
  pub rising : RisesByPort (jobs_in queue)
  pub back : Lists times_returned state (jobs_in returned)
  pub outs : Outs state out

-- the close, if it is to come, takes one event
abbrev pub closes_left : GroupState → ℕ
closes_left state = if state.closed then 0 else 1

-- there is room for the event that ends each hand-out, and for the close
abbrev pub HasRoom : GroupState → ℕ → ℕ → ℕ → Type 0
HasRoom state out events capacity = events + out + closes_left state ≤ capacity

-- the room that a group has
pub record IsRoomy (state : GroupState) (out events event_capacity capacity queued queue_capacity back back_capacity : ℕ) : Type 0 where
  pub room : HasRoom state out events event_capacity
  pub within : queued ≤ capacity
  pub fits : capacity ≤ queue_capacity
  -- for each message that is out to be given back
  pub way_back : back + out ≤ back_capacity
