-- A connection is over exactly where its step says so.
use Rattle.conn_laws.proofs.Ended.{ends, ends_by, silent, keeping}
use Rattle.conn_laws.proofs.laws.ended_law.Goals as goal

pub returns-clause-told : goal.returns-clause-told
returns-clause-told g c number now phase phase' input packets next old new steps =
    ends g.S.Supply.call g.P.Place.slot_of old new number now phase phase' input packets next steps

pub returns-clause-last : goal.returns-clause-last
returns-clause-last g c number now phase phase' input packets next old new steps last =
    ends_by g.S.Supply.call g.P.Place.slot_of old new number now phase phase' input packets next steps last

pub returns-clause-silent : goal.returns-clause-silent
returns-clause-silent g c number now phase phase' packets next old new steps =
    silent g.S.Supply.call g.P.Place.slot_of old new number now phase phase' packets next steps

pub returns-clause-keeps : goal.returns-clause-keeps
returns-clause-keeps g c number now connected phase' input packets next old new steps =
    keeping g.S.Supply.call g.P.Place.slot_of old new number now connected phase' input packets next steps
