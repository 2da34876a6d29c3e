-- The two are equal exactly where what is left of both is.
use Rattle.std.proofs.Common.{◌≡◌}
use Rattle.std.specs.Cmp.Lexicographic.{pointwise}
use Rattle.dispatch_core.specs.contracts.runs.RunPartialEq.TheImpl as run
use Rattle.dispatch_core.proofs.runs.RunsPartialEq.eq.Given as goal

abbrev pub invariant-loop-run : goal.invariant-loop-run
invariant-loop-run l = pointwise (run.ghosts).eq l.run-iterator l.others ≡ pointwise (run.ghosts).eq l.fn.self.runs l.fn.other.runs
