use Rattle.session_desk.proofs.Searched.{First}
use Rattle.session_desk.proofs.sweeping.first_idle.Given as goal

abbrev pub invariant-places : goal.invariant-places
invariant-places g l = First l.rows.entries l.place l.first
