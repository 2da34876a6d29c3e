-- Each turn so far was refused.
use Rattle.std.proofs.Common.{ℕ, ◌<◌}
use Rattle.sharing_tests.proofs.transports.stories.passes.Given as goal

abbrev pub invariant-loop-turn : goal.invariant-loop-turn
invariant-loop-turn g l = let crossing = g.X.Crossing in (turn : ℕ) → turn < l.turn → crossing.refuses l.crossing l.worker turn
