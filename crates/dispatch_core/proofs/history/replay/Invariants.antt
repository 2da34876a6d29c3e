-- The events so far are a run to the state.
use Rattle.std.proofs.Common.{take}
use Rattle.dispatch_core.specs.History.{IsRun}
use Rattle.dispatch_core.proofs.history.replay.Given as goal

abbrev pub invariant-loop-at : goal.invariant-loop-at
invariant-loop-at l = IsRun (take l.at l.events) l.state
