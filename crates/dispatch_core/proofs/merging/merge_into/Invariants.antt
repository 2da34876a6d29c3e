-- The runs from `front + back` on are merged.
use Rattle.std.proofs.Common.{◌≡◌, ◌+◌, vec_capacity}
use Rattle.dispatch_core.proofs.MergedPasses.{IsMergedFrom}
use Rattle.dispatch_core.proofs.merging.merge_into.Given as goal

abbrev pub invariant-loop-back : goal.invariant-loop-back
invariant-loop-back l = IsMergedFrom l.fn.runs.items l.more l.runs.items l.front l.back × (vec_capacity l.runs ≡ vec_capacity l.fn.runs)

abbrev pub decreases-loop-back : goal.decreases-loop-back
decreases-loop-back l = l.front + l.back
