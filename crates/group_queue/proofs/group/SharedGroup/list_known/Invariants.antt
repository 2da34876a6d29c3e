-- The jobs of the envelopes so far that are among these are in the list, and there is room for the others.
use Rattle.std.proofs.Common.{◌≡◌, ◌≤◌, ◌+◌, Contains, take, length}
use Rattle.dispatch_core.specs.declared.event.Job.{Job}
use Rattle.dispatch_core.specs.JobRuns.{jobs_of, count_of}
use Rattle.group_jobs.specs.Stamps.{stamp_of}
use Rattle.group_queue.specs.Ends.{times_held}
use Rattle.group_queue.proofs.group.SharedGroup.list_known.Given as goal

abbrev pub invariant-loop-envelope : goal.invariant-loop-envelope
invariant-loop-envelope g l = record {
  room : length l.held ≤ l.known.spare + l.envelope-index;
  counts : (job : Job) → Contains (jobs_of l.out.runs) job → count_of job (jobs_of l.known.runs) ≡ times_held (stamp_of l.self.slot job) (take l.envelope-index l.held);
}
