-- The Subscription Identifier, step by step.
use Rattle.conn_laws.proofs.Subscriptions.{identified}
use Rattle.conn_laws.proofs.laws.identifier_law.Goals as goal

pub returns : goal.returns
returns g c number now connected phase' input packets next old new steps =
    identified g.S.Supply.call g.P.Place.slot_of number now connected phase' input packets next old new steps
