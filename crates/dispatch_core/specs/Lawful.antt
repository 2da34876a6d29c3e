-- What holds of a group in every state that a run leads to (OASIS MQTT 5.0, 4.6 and 4.8.2).
use Rattle.std.specs.Prelude.{◌≡◌, ◌≢◌, ℕ, ◌<◌, ◌≤◌, ◌↔◌, List, ◌∷◌, ◌++◌, Some, IsSome, Contains, AllPairs}
use Rattle.limits.specs.Limits.{most_members}
use Rattle.dispatch_core.specs.declared.event.Job.{Job}
use Rattle.dispatch_core.specs.declared.event.Spot.TheVariants.{Queued}
use Rattle.dispatch_core.specs.GroupState.{GroupState, spot_of, accepted_of, firsts_of}

-- each port's jobs among these stand in the order of their numbers, none twice
abbrev pub RisesByPort : List Job → Type 0
RisesByPort jobs = AllPairs (λ earlier later. earlier.port ≡ later.port → earlier.number < later.number) jobs

-- the job stands there exactly once
pub record StandsOnce (jobs : List Job) (job : Job) : Type 0 where
  pub before : List Job
  pub behind : List Job
  pub there : jobs ≡ before ++ job ∷ behind
  pub not_before : ¬ Contains before job
  pub not_behind : ¬ Contains behind job

-- the job was handed out for the first time to one member, once, and to no other
pub record HasOneFirst (state : GroupState) (job : Job) : Type 0 where
  pub member : ℕ
  pub is_member : member < most_members
  pub once : StandsOnce (firsts_of state member) job
  pub no_other : (other : ℕ) → other ≢ member → ¬ Contains (firsts_of state other) job

pub record IsLawful (state : GroupState) : Type 0 where
  -- the jobs that have a spot are the accepted ones: of each port the numbers below its count
  pub accepted : (job : Job) → IsSome (spot_of state job) ↔ (job.number < accepted_of state job.port)
  -- each member's first hand-outs keep the order of each port
  pub rising : (member : ℕ) → RisesByPort (firsts_of state member)
  -- the queued jobs of a port are its youngest: what was accepted after a queued job is queued
  pub suffix : (older younger : Job) → older.port ≡ younger.port → older.number ≤ younger.number → spot_of state older ≡ Some Queued → IsSome (spot_of state younger) → spot_of state younger ≡ Some Queued
  -- what was handed out was accepted, and is not queued
  pub handed_out : (member : ℕ) (job : Job) → Contains (firsts_of state member) job → IsSome (spot_of state job) × (spot_of state job ≢ Some Queued)
  -- every other accepted job had its one first hand-out
  pub one_first : (job : Job) → IsSome (spot_of state job) → spot_of state job ≢ Some Queued → HasOneFirst state job
