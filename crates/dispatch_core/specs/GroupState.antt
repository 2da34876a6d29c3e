-- Where a group stands: where each of its jobs is, which member was the first to be handed which, and whether it is closed.
use Rattle.std.specs.Prelude.{◌≡◌, ℕ, Bool, false, List, [], length, Option, None, slice_get, slice_index_or}
use Rattle.dispatch_core.specs.declared.event.Job.{Job}
use Rattle.dispatch_core.specs.declared.event.Spot.{Spot}

pub record GroupState : Type 0 where
  -- for each port, where its jobs are: a job's place in its port's row is its number
  pub rows : List (List Spot)
  -- for each member, the jobs whose first hand-out was to it, in that order
  pub firsts : List (List Job)
  -- the group was closed
  pub closed : Bool

abbrev pub row_of : GroupState → ℕ → List Spot
row_of state port = slice_index_or state.rows port []

-- the finite map from jobs to spots: a job that was not accepted has none
abbrev pub spot_of : GroupState → Job → Option Spot
spot_of state job = slice_get (row_of state job.port) job.number

-- how many jobs a port accepted: the numbers of its jobs are those below
abbrev pub accepted_of : GroupState → ℕ → ℕ
accepted_of state port = length (row_of state port)

-- the first hand-outs to a member, in their order
abbrev pub firsts_of : GroupState → ℕ → List Job
firsts_of state member = slice_index_or state.firsts member []

-- a group before its first event
pub record IsEmpty (state : GroupState) : Type 0 where
  pub no_job : (job : Job) → spot_of state job ≡ None
  pub no_hand_out : (member : ℕ) → firsts_of state member ≡ []
  pub not_closed : state.closed ≡ false
