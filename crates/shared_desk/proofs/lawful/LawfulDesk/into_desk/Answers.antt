-- Its history led to it.
use Rattle.shared_desk.proofs.Histories.{lawful}
use Rattle.shared_desk.proofs.lawful.LawfulDesk.into_desk.Goals as goal

pub returns : goal.returns
returns g c = lawful g.P.HoldingPlace.has_out g.P.Place.slot_of g.P.Place.number_of _ _ c.self.invariant
