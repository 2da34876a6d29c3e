-- What was given back is out from then on, whatever the Subscription Identifier under which it is sent.
use Rattle.std.proofs.Common.{Option, Ok, subst}
use Rattle.group_jobs.specs.Stamps.{Held}
use Rattle.conn_supply.specs.Holding.{with_found}
use Rattle.conn_supply.proofs.hand_outs.ask.Goals as goal

pub returns-in-Some-clause-out : goal.returns-in-Some-clause-out
returns-in-Some-clause-out g c all subscription has =
    subst (λ (found : Option Held). g.P.HoldingPlace.has_out c.take_back.new.place (with_found all subscription (Ok found))) c.in-Some.is
    (c.in_ok-envelope.ensures.out all subscription has)
