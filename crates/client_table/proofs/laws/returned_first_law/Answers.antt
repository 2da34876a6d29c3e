-- What was given back is handed out first.
use Rattle.client_table.proofs.ReturnedFirst as first
use Rattle.client_table.proofs.laws.returned_first_law.Goals as goal

pub returns-clause-receives : goal.returns-clause-receives
returns-clause-receives g c now piece more result before after old new does =
    first.receives g.S.Supply.call g.P.Place.slot_of result before old new now piece more after does

pub returns-clause-ticks : goal.returns-clause-ticks
returns-clause-ticks g c now more result before after old new does = first.ticks_for g.S.Supply.call g.P.Place.slot_of result before old new now more after does

pub returns-clause-ends : goal.returns-clause-ends
returns-clause-ends g c now input more result before after old new does = first.ends_for g.S.Supply.call g.P.Place.slot_of result before old new now input more after does
