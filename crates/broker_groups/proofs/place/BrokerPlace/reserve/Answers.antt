-- What was out is out.
use Rattle.std.proofs.Common.{subst}
use Rattle.group_queue.specs.Places.{PlaceState}
use Rattle.conn_supply.specs.Holding.{KeepsOut}
use Rattle.broker_groups.specs.Outs.{HasOut}
use Rattle.broker_groups.proofs.Outs.{reserved}
use Rattle.broker_groups.proofs.place.BrokerPlace.reserve.Goals as goal

pub returns-clause-out : goal.returns-clause-out
returns-clause-out g c =
    subst (λ (p : PlaceState). KeepsOut HasOut p c.reserve.new.self) c.self.view_is
    (reserved c.self.inside.place c.reserve.new.self c.reserve.ensures.same)
