use Rattle.dispatch_core.proofs.ToldLaws.{accepted_run, firsts_run, spot_run}
use Rattle.dispatch_core.proofs.laws.telling_law.Goals as goal

pub returns-clause-accepted : goal.returns-clause-accepted
returns-clause-accepted c events state run job = accepted_run events state run job

pub returns-clause-firsts : goal.returns-clause-firsts
returns-clause-firsts c events state run member = firsts_run events state member run

pub returns-clause-spot : goal.returns-clause-spot
returns-clause-spot c before behind event job state run about none = spot_run before behind event job state run about none
