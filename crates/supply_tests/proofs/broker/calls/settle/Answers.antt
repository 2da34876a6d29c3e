-- The one message that was out is settled.
use Rattle.supply_tests.proofs.Singles.{spends}
use Rattle.supply_tests.proofs.broker.calls.settle.Goals as goal

pub returns-clause-none : goal.returns-clause-none
returns-clause-none g c = spends g.P.HoldingPlace.has_out c.args.place.now c.settle.new.place c.args.envelope c.settle.ensures.out c.requires
