-- What a step offers is offered from its connection.
use Rattle.conn_laws.proofs.Publishers as publishers
use Rattle.conn_laws.proofs.laws.publisher_law.Goals as goal

pub returns-clause-stepped : goal.returns-clause-stepped
returns-clause-stepped g c number now phase phase' input packets next old new steps =
    publishers.stepped g.S.Supply.call g.P.Place.slot_of old new number now phase phase' input packets next steps

pub returns-clause-failed : goal.returns-clause-failed
returns-clause-failed g c number now phase input old new fails =
    publishers.failed g.S.Supply.call g.P.Place.slot_of old new number now phase input fails
