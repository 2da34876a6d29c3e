use Rattle.dispatch_core.proofs.RunLaws.{refused_run, discarded_run, acked_run}
use Rattle.dispatch_core.proofs.laws.fate_law.Goals as goal

pub returns-clause-refused : goal.returns-clause-refused
returns-clause-refused c before behind member job state run = refused_run before behind member job state run

pub returns-clause-discarded : goal.returns-clause-discarded
returns-clause-discarded c before behind member job state run = discarded_run before behind member job state run

pub returns-clause-acknowledged : goal.returns-clause-acknowledged
returns-clause-acknowledged c before behind member job state run = acked_run before behind member job state run
