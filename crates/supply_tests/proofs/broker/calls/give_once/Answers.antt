-- The one message that was out was given back, or is out still.
use Rattle.std.proofs.Common.{[], ◌∷◌, sym, subst}
use Rattle.supply_tests.proofs.Singles.{spends}
use Rattle.supply_tests.proofs.broker.calls.give_once.Goals as goal

pub returns-in-Ok-clause-out : goal.returns-in-Ok-clause-out
returns-in-Ok-clause-out g c = spends g.P.HoldingPlace.has_out c.args.place.now c.give_back.new.place c.args.envelope c.in-Ok.ensures.out c.requires

pub returns-in-Err-clause-out : goal.returns-in-Err-clause-out
returns-in-Err-clause-out g c =
    subst (λ back. g.P.HoldingPlace.has_out c.give_back.new.place (back ∷ [])) (sym c.in-Err.ensures.same) (c.in-Err.ensures.out (c.args.envelope ∷ []) c.requires)
