use Rattle.dispatch_core.proofs.RunLaws.{job_kept, firsts_kept, mark_kept}
use Rattle.dispatch_core.proofs.laws.keeping_law.Goals as goal

pub returns-clause-jobs : goal.returns-clause-jobs
returns-clause-jobs c old event new step job other = job_kept old new event job other step

pub returns-clause-firsts : goal.returns-clause-firsts
returns-clause-firsts c old event new step member other = firsts_kept old new event member other step

pub returns-clause-mark : goal.returns-clause-mark
returns-clause-mark c old event new step other = mark_kept old new event other step
