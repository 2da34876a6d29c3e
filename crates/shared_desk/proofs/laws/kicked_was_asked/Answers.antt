use Rattle.shared_desk.proofs.Pasts.{was_asked}
use Rattle.shared_desk.proofs.laws.kicked_was_asked.Goals as goal

pub returns : goal.returns
returns g c before after connection within history = was_asked g.P.HoldingPlace.has_out g.P.Place.slot_of g.P.Place.number_of before after connection within history
