use Rattle.std.proofs.Common.{length}
use Rattle.session_desk.proofs.abandoned.abandon_rows.Given as goal

abbrev pub decreases-rows : goal.decreases-rows
decreases-rows g l = length l.rows.entries
