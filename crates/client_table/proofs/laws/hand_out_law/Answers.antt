-- What is handed out for a client is what it is told.
use Rattle.client_table.proofs.Calling.{receives_told, ticks_told, ends_told}
use Rattle.client_table.proofs.laws.hand_out_law.Goals as goal

pub returns-clause-receives : goal.returns-clause-receives
returns-clause-receives g c now piece more before after old new does = receives_told g.S.Supply.call g.P.Place.slot_of before old new now piece more after does

pub returns-clause-ticks : goal.returns-clause-ticks
returns-clause-ticks g c now more before after old new does = ticks_told g.S.Supply.call g.P.Place.slot_of before old new now more after does

pub returns-clause-ends : goal.returns-clause-ends
returns-clause-ends g c now input more before after old new does = ends_told g.S.Supply.call g.P.Place.slot_of before old new now input more after does
