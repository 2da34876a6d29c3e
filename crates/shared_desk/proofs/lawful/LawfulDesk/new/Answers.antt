-- No call made a new desk.
use Rattle.shared_desk.proofs.Histories.{starts}
use Rattle.shared_desk.proofs.lawful.LawfulDesk.new.Goals as goal

pub invariant_of-result : goal.invariant_of-result
invariant_of-result g c = starts g.P.HoldingPlace.has_out g.P.Place.slot_of g.P.Place.number_of _ _ c.requires.keeper c.requires.desk
