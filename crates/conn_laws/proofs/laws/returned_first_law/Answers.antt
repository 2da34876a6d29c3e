-- What was given back is handed out first.
use Rattle.conn_laws.proofs.ReturnedFirst.{stepped}
use Rattle.conn_laws.proofs.ReturnedFirstFailing.{failed}
use Rattle.conn_laws.proofs.laws.returned_first_law.Goals as goal

pub returns-clause-stepped : goal.returns-clause-stepped
returns-clause-stepped g c number now phase phase' input packets next old new steps =
    stepped g.S.Supply.call g.P.Place.slot_of old new number now phase phase' input packets next steps

pub returns-clause-failed : goal.returns-clause-failed
returns-clause-failed g c number now phase input old new fails = failed g.S.Supply.call g.P.Place.slot_of old new number now phase input fails
