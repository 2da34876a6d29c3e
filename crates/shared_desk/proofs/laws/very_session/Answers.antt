use Rattle.shared_desk.proofs.Pasts.{very}
use Rattle.shared_desk.proofs.laws.very_session.Goals as goal

pub returns : goal.returns
returns g c before after next session history out = very g.P.HoldingPlace.has_out g.P.Place.slot_of g.P.Place.number_of before after next session history out
