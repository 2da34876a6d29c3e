-- What is out is what the place holds, and one less is out, unless it came back.
use Rattle.std.proofs.Common.{sym, subst}
use Rattle.group_queue.specs.Places.{PlaceState}
use Rattle.conn_supply.specs.Holding.{IsAmong, ReturnsOut}
use Rattle.broker_groups.specs.Outs.{HasOut}
use Rattle.broker_groups.proofs.Outs.{held, given_back}
use Rattle.broker_groups.proofs.place.BrokerPlace.give_back.Goals as goal

pub give_back-requires-clause-held : goal.give_back-requires-clause-held
give_back-requires-clause-held g c = held c.self.inside.place c.args.envelope (subst (λ (p : PlaceState). IsAmong HasOut p c.args.envelope) (sym c.self.view_is) c.requires)

pub returns-clause-out : goal.returns-clause-out
returns-clause-out g c =
    subst (λ (p : PlaceState). ReturnsOut HasOut p c.args.envelope c.give_back.result c.give_back.new.place) c.self.view_is
    (given_back c.self.inside.place c.give_back.new.place c.args.envelope c.give_back.result c.give_back.ensures.answer)
