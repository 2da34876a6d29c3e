-- A step is a list of calls.
use Rattle.conn_laws.proofs.Failing.{failed}
use Rattle.conn_laws.proofs.Stepping.{stepped}
use Rattle.conn_laws.proofs.laws.calls_law.Goals as goal

pub returns-clause-stepped : goal.returns-clause-stepped
returns-clause-stepped g c number now phase phase' input packets next old new steps =
    stepped g.S.Supply.call g.P.Place.slot_of old new number now phase phase' input packets next steps

pub returns-clause-failed : goal.returns-clause-failed
returns-clause-failed g c number now phase input old new fails = failed g.S.Supply.call g.P.Place.slot_of old new number now phase input fails
