-- The job is the one at what is ahead, of the runs that are left.
use Rattle.std.proofs.Common.{◌≡◌, slice_get, All}
use Rattle.dispatch_core.specs.JobRuns.{jobs_of, IsFilled}
use Rattle.dispatch_core.proofs.walks.job_at.Given as goal

abbrev pub invariant-loop-run : goal.invariant-loop-run
invariant-loop-run l = record { filled : All IsFilled l.run-iterator; same : slice_get (jobs_of l.fn.runs) l.at ≡ slice_get (jobs_of l.run-iterator) l.ahead }
