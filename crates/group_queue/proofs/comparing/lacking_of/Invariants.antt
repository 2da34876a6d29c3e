-- The jobs that are left are among all.
use Rattle.std.proofs.Common.{Contains}
use Rattle.std.specs.VecDeque.Iter.{deque_iter_rest}
use Rattle.dispatch_core.specs.declared.event.Job.{Job}
use Rattle.group_queue.proofs.comparing.lacking_of.Given as goal

abbrev pub invariant-loop-job : goal.invariant-loop-job
invariant-loop-job l = (job : Job) → Contains (deque_iter_rest l.job-iterator) job → Contains l.jobs.items job
