use Rattle.shared_desk.proofs.FreePlaces.{back_between, very_place}
use Rattle.shared_desk.proofs.laws.very_place.Goals as goal

pub returns-clause-very : goal.returns-clause-very
returns-clause-very g c before after slot place history = very_place g.P.HoldingPlace.has_out g.P.Place.slot_of g.P.Place.number_of before after slot place history

pub returns-clause-between : goal.returns-clause-between
returns-clause-between g c before within after slot its_slot one other history same_cell =
    back_between g.P.HoldingPlace.has_out g.P.Place.slot_of g.P.Place.number_of before within after slot its_slot one other history same_cell
