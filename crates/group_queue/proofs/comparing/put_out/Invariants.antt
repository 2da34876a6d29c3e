-- The jobs so far are in the list, and there is room for the others.
use Rattle.std.proofs.Common.{◌≡◌, ◌≤◌, ◌<◌, ◌+◌, All, length}
use Rattle.std.specs.VecDeque.Iter.{deque_iter_rest}
use Rattle.dispatch_core.specs.declared.event.Job.{Job}
use Rattle.dispatch_core.specs.JobRuns.{jobs_of, count_of}
use Rattle.group_queue.proofs.comparing.put_out.Given as goal

abbrev pub invariant-loop-job : goal.invariant-loop-job
invariant-loop-job g l = record {
  room : length (deque_iter_rest l.job-iterator) ≤ l.list.spare;
  counts : (job : Job) → count_of job (jobs_of l.list.runs) + count_of job (deque_iter_rest l.job-iterator) ≡ count_of job (jobs_of l.fn.list.runs) + count_of job l.place.docket.out;
  small : All (λ (job : Job). job.number < 18446744073709551615) (jobs_of l.list.runs);
  left : All (λ (job : Job). job.number < 18446744073709551615) (deque_iter_rest l.job-iterator);
}
