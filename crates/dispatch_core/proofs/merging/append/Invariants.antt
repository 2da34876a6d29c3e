-- The runs so far stand behind those that were there.
use Rattle.std.proofs.Common.{◌≡◌, ◌++◌, take, vec_capacity}
use Rattle.dispatch_core.proofs.merging.append.Given as goal

abbrev pub invariant-loop-run : goal.invariant-loop-run
invariant-loop-run l = (l.runs.items ≡ l.initial.runs.items ++ take l.run-index l.more) × (vec_capacity l.runs ≡ vec_capacity l.initial.runs)
