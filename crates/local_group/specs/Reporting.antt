-- The report of a group on one thread.
use Rattle.std.specs.Prelude.{◌≡◌, ℕ, ◌<◌, length, IsSome, slice_index_or}
use Rattle.limits.specs.Limits.{most_ports}
use Rattle.dispatch_core.specs.declared.event.Job.{Job}
use Rattle.dispatch_core.specs.GroupState.{spot_of, accepted_of}
use Rattle.group_jobs.specs.declared.fate.Fate.{Fate}
use Rattle.group_jobs.specs.declared.report.Report.{Report}
use Rattle.group_jobs.specs.Settled.{settled_as}
use Rattle.local_group.specs.Groups.{Group}
use Rattle.local_group.specs.Spots.{jobs_in}
use Rattle.group_jobs.specs.Spots.{times_queued, times_out, times_returned, times_settled, Lists}

-- what became of a group's messages: for each port how many it accepted, and each job in the list of its spot, once
pub record Reports (group : Group) (report : Report) : Type 0 where
  pub ports : length report.accepted.items ≡ most_ports
  pub accepted : (port : ℕ) → port < most_ports → slice_index_or report.accepted.items port 0 ≡ accepted_of group.state port
  -- every job is of one of these ports
  pub no_other : (job : Job) → IsSome (spot_of group.state job) → job.port < most_ports
  pub settled : (fate : Fate) → Lists (times_settled fate) group.state (settled_as fate report.settled)
  pub held : Lists times_out group.state report.held.items
  pub queued : Lists times_queued group.state report.queued.items
  pub returned : Lists times_returned group.state report.returned.items
  -- those that wait stand in their order
  pub queue : report.queued.items ≡ jobs_in group.queue
  pub back : report.returned.items ≡ jobs_in group.returned
