use Rattle.dispatch_core.proofs.LawfulSteps.{lawful_step}
use Rattle.dispatch_core.proofs.RunLaws.{lawful_run, count_run}
use Rattle.dispatch_core.proofs.laws.lawful_law.Goals as goal

pub returns-clause-lawful : goal.returns-clause-lawful
returns-clause-lawful c events state run = lawful_run events state run

pub returns-clause-accepted : goal.returns-clause-accepted
returns-clause-accepted c events state run port = count_run events state port run

pub returns-clause-step : goal.returns-clause-step
returns-clause-step c old event new lawful step = lawful_step old new event lawful step
