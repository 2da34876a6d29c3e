-- Where none of the jobs that are left lacks an envelope, none does.
use Rattle.std.proofs.Common.{◌≤◌, All}
use Rattle.std.specs.VecDeque.Iter.{deque_iter_rest}
use Rattle.dispatch_core.specs.declared.event.Job.{Job}
use Rattle.group_jobs.specs.Stamps.{stamp_of}
use Rattle.group_queue.specs.Ends.{times_held, times_out}
use Rattle.group_queue.proofs.group.SharedGroup.lacking_of.Given as goal

abbrev pub invariant-loop-job : goal.invariant-loop-job
invariant-loop-job g l =
    let P : Job → Type 0 = λ job. times_out l.self (stamp_of l.self.slot job) l.places ≤ times_held (stamp_of l.self.slot job) l.held in
    All P (deque_iter_rest l.job-iterator) → All P l.out.items
