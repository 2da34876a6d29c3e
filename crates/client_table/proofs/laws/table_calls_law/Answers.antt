-- What a table does is a list of calls.
use Rattle.client_table.proofs.Calling.{receives, ticks_for, ends_for, abandons_each}
use Rattle.client_table.proofs.laws.table_calls_law.Goals as goal

pub returns-clause-receives : goal.returns-clause-receives
returns-clause-receives g c now piece more result before after old new does = receives g.S.Supply.call g.P.Place.slot_of result before old new now piece more after does

pub returns-clause-ticks : goal.returns-clause-ticks
returns-clause-ticks g c now more result before after old new does = ticks_for g.S.Supply.call g.P.Place.slot_of result before old new now more after does

pub returns-clause-ends : goal.returns-clause-ends
returns-clause-ends g c now input more result before after old new does = ends_for g.S.Supply.call g.P.Place.slot_of result before old new now input more after does

pub returns-clause-abandons : goal.returns-clause-abandons
returns-clause-abandons g c now cells old new does = abandons_each g.S.Supply.call g.P.Place.slot_of cells old new now does
