-- What is offered for a client is offered from its connection.
use Rattle.client_table.proofs.Publishers as publishers
use Rattle.client_table.proofs.laws.publisher_law.Goals as goal

pub returns-clause-receives : goal.returns-clause-receives
returns-clause-receives g c number now piece more result before after old new is does =
    publishers.receives g.S.Supply.call g.P.Place.slot_of result before number old new now piece more after is does

pub returns-clause-ticks : goal.returns-clause-ticks
returns-clause-ticks g c number now more result before after old new is does =
    publishers.ticks_for g.S.Supply.call g.P.Place.slot_of result before number old new now more after is does

pub returns-clause-ends : goal.returns-clause-ends
returns-clause-ends g c number now input more result before after old new is does =
    publishers.ends_for g.S.Supply.call g.P.Place.slot_of result before number old new now input more after is does
