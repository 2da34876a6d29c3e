use Rattle.std.proofs.Common.{refl}
use Rattle.dispatch_core.proofs.Histories.{leads_push}
use Rattle.dispatch_core.proofs.laws.growing_law.Goals as goal

pub returns-clause-begins : goal.returns-clause-begins
returns-clause-begins c state empty = record { start = state; empty = empty; steps = refl }

pub returns-clause-goes_on : goal.returns-clause-goes_on
returns-clause-goes_on c events old event new run step = record { start = run.start; empty = run.empty; steps = leads_push run.start old new events event run.steps step }
