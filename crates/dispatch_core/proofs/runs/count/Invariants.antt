-- The jobs of the runs so far are counted.
use Rattle.std.proofs.Common.{◌≡◌, ◌≤◌, ◌*◌, length, take}
use Rattle.dispatch_core.specs.JobRuns.{jobs_of}
use Rattle.dispatch_core.proofs.runs.count.Given as goal

abbrev pub invariant-loop-run : goal.invariant-loop-run
invariant-loop-run l = (l.jobs ≡ length (jobs_of (take l.run-index l.runs))) × (l.jobs ≤ 18446744073709551615 * l.run-index)
