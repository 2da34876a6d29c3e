-- What is told of the events so far.
use Rattle.std.proofs.Common.{take}
use Rattle.drive.specs.Forms.{lines_as}
use Rattle.drive.proofs.Playing.{IsTextOf}
use Rattle.drive.proofs.driving.transcribe.Given as goal

abbrev pub invariant-loop-event : goal.invariant-loop-event
invariant-loop-event l = IsTextOf (lines_as l.form) l.fn.server (take l.event-index l.events) l.transcript l.server
