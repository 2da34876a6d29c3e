use Rattle.dispatch_core.proofs.ExactLaws.{one_state, no_run}
use Rattle.dispatch_core.proofs.laws.exactness_law.Goals as goal

pub returns-clause-one_state : goal.returns-clause-one_state
returns-clause-one_state c events one other run other_run = one_state events one other run other_run

pub returns-clause-no_run : goal.returns-clause-no_run
returns-clause-no_run c events at why stops state = no_run events at why stops state
