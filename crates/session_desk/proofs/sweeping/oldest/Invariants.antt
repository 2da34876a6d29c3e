use Rattle.session_desk.proofs.Searched.{Best}
use Rattle.session_desk.proofs.sweeping.oldest.Given as goal

abbrev pub invariant-places : goal.invariant-places
invariant-places g l = Best l.rows.entries l.place l.due l.best
