-- What was taken is all that is out, under the Subscription Identifier that it has.
use Rattle.std.proofs.Common.{[], Option, None, Ok, subst}
use Rattle.group_jobs.specs.Stamps.{Held}
use Rattle.conn_supply.specs.Holding.{with_found}
use Rattle.supply_tests.proofs.broker.calls.take_once.Goals as goal

pub returns-in-Ok-Some-clause-out : goal.returns-in-Ok-Some-clause-out
returns-in-Ok-Some-clause-out g c =
    subst (λ (found : Option Held). g.P.HoldingPlace.has_out c.take.new.place (with_found [] c.in-Ok-Some.envelope.subscription (Ok found))) c.in-Ok-Some.field-0-is
    (c.in-Ok-Some.ensures.out [] c.in-Ok-Some.envelope.subscription c.requires.none)

pub returns-in-Ok-None-clause-out : goal.returns-in-Ok-None-clause-out
returns-in-Ok-None-clause-out g c =
    subst (λ (found : Option Held). g.P.HoldingPlace.has_out c.take.new.place (with_found [] None (Ok found))) c.in-Ok-None.field-0-is
    (c.in-Ok-None.ensures.out [] None c.requires.none)

pub returns-in-Err-clause-out : goal.returns-in-Err-clause-out
returns-in-Err-clause-out g c = c.in-Err.ensures.out [] None c.requires.none
