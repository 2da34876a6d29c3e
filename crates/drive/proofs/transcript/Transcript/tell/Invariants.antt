-- What was said so far.
use Rattle.std.proofs.Common.{◌≡◌, ◌++◌, take}
use Rattle.std.specs.List.{flat_map}
use Rattle.drive.specs.Forms.{lines_as}
use Rattle.drive.proofs.transcript.Transcript.tell.Given as goal

abbrev pub invariant-loop-step : goal.invariant-loop-step
invariant-loop-step l = l.self ≡ l.fn.self ++ flat_map (lines_as l.form) (take l.step-index l.outputs)
