-- What a step sends is short, unless it hands a message on.
use Rattle.conn_laws.proofs.Sending.{sent, kept_short}
use Rattle.conn_laws.proofs.sizes.short_replies_law.Goals as goal

pub returns-clause-short : goal.returns-clause-short
returns-clause-short g c number now phase phase' input packets next old new steps =
    kept_short packets (sent g.S.Supply.call g.P.Place.slot_of old new number now phase phase' input packets next steps)

pub returns-clause-small : goal.returns-clause-small
returns-clause-small g c number now phase phase' input packets next old new steps =
    sent g.S.Supply.call g.P.Place.slot_of old new number now phase phase' input packets next steps
