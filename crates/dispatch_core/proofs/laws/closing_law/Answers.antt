use Rattle.dispatch_core.proofs.RunLaws.{closed_run}
use Rattle.dispatch_core.proofs.laws.closing_law.Goals as goal

pub returns : goal.returns
returns c before behind state run = closed_run before behind state run
