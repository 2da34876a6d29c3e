use Rattle.std.proofs.Common.{length}
use Rattle.member_window.specs.Contents.{held_of, IsDown}
use Rattle.session_desk.proofs.abandoned.abandon_window.Given as goal

abbrev pub invariant-held : goal.invariant-held
invariant-held g l = IsDown l.window

abbrev pub decreases-held : goal.decreases-held
decreases-held g l = length (held_of l.window)
