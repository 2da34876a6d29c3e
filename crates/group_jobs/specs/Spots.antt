-- Lists of jobs by where the jobs are.
use Rattle.std.specs.Prelude.{◌≡◌, ℕ, ◌==◌, if◌then◌else◌, List, Option, Some, None}
use Rattle.dispatch_core.specs.declared.event.Job.{Job}
use Rattle.dispatch_core.specs.declared.event.Spot.{Spot}
use Rattle.dispatch_core.specs.declared.event.Spot.TheVariants.{Queued, Held, Acked, Refused, Discarded, Returned}
use Rattle.dispatch_core.specs.GroupState.{GroupState, spot_of}
use Rattle.dispatch_core.specs.JobRuns.{count_of}
use Rattle.group_jobs.specs.declared.fate.Fate.{Fate}
use Rattle.group_jobs.specs.declared.fate.Fate.TheVariants as fate

-- how often a job at this spot stands in the queue, among the jobs that are out, and among the returned ones
abbrev pub times_queued : Option Spot → ℕ
times_queued None = 0
times_queued (Some Queued) = 1
times_queued (Some (Held place)) = 0
times_queued (Some (Acked place)) = 0
times_queued (Some (Refused place)) = 0
times_queued (Some (Discarded place)) = 0
times_queued (Some Returned) = 0

abbrev pub times_out : Option Spot → ℕ
times_out None = 0
times_out (Some Queued) = 0
times_out (Some (Held place)) = 1
times_out (Some (Acked place)) = 0
times_out (Some (Refused place)) = 0
times_out (Some (Discarded place)) = 0
times_out (Some Returned) = 0

abbrev pub times_returned : Option Spot → ℕ
times_returned None = 0
times_returned (Some Queued) = 0
times_returned (Some (Held place)) = 0
times_returned (Some (Acked place)) = 0
times_returned (Some (Refused place)) = 0
times_returned (Some (Discarded place)) = 0
times_returned (Some Returned) = 1

-- and how often among those of this fate
abbrev pub times_settled : Fate → Option Spot → ℕ
times_settled which None = 0
times_settled which (Some Queued) = 0
times_settled which (Some (Held place)) = 0
times_settled fate.Acknowledged (Some (Acked place)) = 1
times_settled fate.Refused (Some (Acked place)) = 0
times_settled fate.Discarded (Some (Acked place)) = 0
times_settled fate.Acknowledged (Some (Refused place)) = 0
times_settled fate.Refused (Some (Refused place)) = 1
times_settled fate.Discarded (Some (Refused place)) = 0
times_settled fate.Acknowledged (Some (Discarded place)) = 0
times_settled fate.Refused (Some (Discarded place)) = 0
times_settled fate.Discarded (Some (Discarded place)) = 1
times_settled which (Some Returned) = 0

-- the place with the first number is the one with the second: once, or never
abbrev pub if_same : ℕ → ℕ → ℕ
if_same place other = if place == other then 1 else 0

-- how often it is out with the place of this number
abbrev pub times_out_with : ℕ → Option Spot → ℕ
times_out_with place None = 0
times_out_with place (Some Queued) = 0
times_out_with place (Some (Held other)) = if_same other place
times_out_with place (Some (Acked other)) = 0
times_out_with place (Some (Refused other)) = 0
times_out_with place (Some (Discarded other)) = 0
times_out_with place (Some Returned) = 0

-- and how often that place settled it by this fate
abbrev pub times_settled_by : ℕ → Fate → Option Spot → ℕ
times_settled_by place which None = 0
times_settled_by place which (Some Queued) = 0
times_settled_by place which (Some (Held other)) = 0
times_settled_by place fate.Acknowledged (Some (Acked other)) = if_same other place
times_settled_by place fate.Refused (Some (Acked other)) = 0
times_settled_by place fate.Discarded (Some (Acked other)) = 0
times_settled_by place fate.Acknowledged (Some (Refused other)) = 0
times_settled_by place fate.Refused (Some (Refused other)) = if_same other place
times_settled_by place fate.Discarded (Some (Refused other)) = 0
times_settled_by place fate.Acknowledged (Some (Discarded other)) = 0
times_settled_by place fate.Refused (Some (Discarded other)) = 0
times_settled_by place fate.Discarded (Some (Discarded other)) = if_same other place
times_settled_by place which (Some Returned) = 0

-- the list has each job as often as its spot says
abbrev pub Lists : (Option Spot → ℕ) → GroupState → List Job → Type 0
Lists times state jobs = (job : Job) → count_of job jobs ≡ times (spot_of state job)
