-- What is out is what the place holds, and one less is out.
use Rattle.std.proofs.Common.{sym, subst}
use Rattle.group_queue.specs.Places.{PlaceState}
use Rattle.conn_supply.specs.Holding.{IsAmong, SpendsOut}
use Rattle.broker_groups.specs.Outs.{HasOut}
use Rattle.broker_groups.proofs.Outs.{held, settled}
use Rattle.broker_groups.proofs.place.BrokerPlace.settle.Goals as goal

pub settle-requires : goal.settle-requires
settle-requires g c = held c.self.inside.place c.args.envelope (subst (λ (p : PlaceState). IsAmong HasOut p c.args.envelope) (sym c.self.view_is) c.requires)

pub returns-clause-out : goal.returns-clause-out
returns-clause-out g c =
    subst (λ (p : PlaceState). SpendsOut HasOut p c.args.envelope c.settle.new.self) c.self.view_is
    (settled c.self.inside.place c.settle.new.self c.args.envelope c.args.fate c.settle.ensures.settled)
