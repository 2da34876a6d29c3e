-- The crossing refused in each turn so far.
use Rattle.std.proofs.Common.{◌<◌, ℕ}
use Rattle.conn_service.proofs.crossing.may_pass.Given as goal

abbrev pub invariant-turns : goal.invariant-turns
invariant-turns g l = (turn : ℕ) → turn < l.turn → g.X.Crossing.refuses l.crossing l.worker turn
