-- What was given back is handed out first.
use Rattle.local_broker.proofs.ReturnedFirst.{begins_first, stays_first, stays_first_closed}
use Rattle.local_broker.proofs.laws.returned_first_law.Goals as goal

pub returns-clause-new : goal.returns-clause-new
returns-clause-new c capacity shares b new = begins_first capacity shares b new

pub returns-clause-calls : goal.returns-clause-calls
returns-clause-calls c old new calls all = stays_first old new calls all

pub returns-clause-close : goal.returns-clause-close
returns-clause-close c old new closes all = stays_first_closed old new closes all
