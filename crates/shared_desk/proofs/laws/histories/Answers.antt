use Rattle.shared_desk.proofs.Pasts.{begins, was_made, was_ready, was_told}
use Rattle.shared_desk.proofs.laws.histories.Goals as goal

pub returns-clause-begins : goal.returns-clause-begins
returns-clause-begins g c calls more history = begins g.P.HoldingPlace.has_out g.P.Place.slot_of g.P.Place.number_of calls more history

pub returns-clause-made : goal.returns-clause-made
returns-clause-made g c before after call history = was_made g.P.HoldingPlace.has_out g.P.Place.slot_of g.P.Place.number_of before after call history

pub returns-clause-told : goal.returns-clause-told
returns-clause-told g c old new call told = was_told g.P.HoldingPlace.has_out g.P.Place.slot_of g.P.Place.number_of old new call told

pub returns-clause-ready : goal.returns-clause-ready
returns-clause-ready g c newcomers old new request answer told = was_ready g.P.HoldingPlace.has_out g.P.Place.slot_of g.P.Place.number_of newcomers old new request answer told
