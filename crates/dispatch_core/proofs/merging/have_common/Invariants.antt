-- The runs before `place` each end before the next begins.
use Rattle.std.proofs.Common.{take}
use Rattle.dispatch_core.specs.JobRuns.{EachBefore}
use Rattle.dispatch_core.specs.Joining.{LiesClear}
use Rattle.dispatch_core.proofs.merging.have_common.Given as goal

abbrev pub invariant-loop-place : goal.invariant-loop-place
invariant-loop-place l = EachBefore LiesClear (take l.place l.runs)
