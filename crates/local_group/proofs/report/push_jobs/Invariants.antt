-- The jobs of the messages so far stand behind the others.
use Rattle.std.proofs.Common.{◌≡◌, ◌++◌, take}
use Rattle.local_group.specs.Spots.{jobs_in}
use Rattle.local_group.proofs.report.push_jobs.Given as goal

abbrev pub invariant-loop-message : goal.invariant-loop-message
invariant-loop-message l = l.jobs.items ≡ l.initial.jobs.items ++ jobs_in (take l.message-index l.waiting)
