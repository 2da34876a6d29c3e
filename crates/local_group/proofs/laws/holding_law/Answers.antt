use Rattle.local_group.proofs.Holding.{comes, stays}
use Rattle.dispatch_core.specs.declared.event.Event.TheVariants.{First, Again}
use Rattle.local_group.proofs.laws.holding_law.Goals as goal

pub returns-clause-taken : goal.returns-clause-taken
returns-clause-taken c old new place envelope takes = comes old new (First place takes.0.job) takes.0 place envelope takes.2 takes.4 takes.4.step.made.0.there

pub returns-clause-taken_back : goal.returns-clause-taken_back
returns-clause-taken_back c old new place envelope takes = comes old new (Again place takes.0.job) takes.0 place envelope takes.2 takes.4 takes.4.step.made.0.there

pub returns-clause-stays : goal.returns-clause-stays
returns-clause-stays c old new event envelope held adds differs = stays old new event envelope held adds differs
