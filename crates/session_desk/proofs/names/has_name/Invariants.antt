use Rattle.session_desk.proofs.Searched.{NoneNamed}
use Rattle.session_desk.proofs.names.has_name.Given as goal

abbrev pub invariant-places : goal.invariant-places
invariant-places g l = NoneNamed l.rows.entries l.place l.client
