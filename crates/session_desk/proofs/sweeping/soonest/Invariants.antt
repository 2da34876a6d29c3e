use Rattle.session_desk.proofs.Searched.{Before}
use Rattle.session_desk.proofs.sweeping.soonest.Given as goal

abbrev pub invariant-places : goal.invariant-places
invariant-places g l = Before l.rows.entries l.place l.soonest
