use Rattle.std.proofs.Common.{subst}
use Rattle.dispatch_core.specs.JobRuns.{jobs_of}
use Rattle.group_jobs.specs.Settled.{settled_as}
use Rattle.local_group.specs.Tallies.{Gains}
use Rattle.local_group.proofs.Tallied.{gains_one}
use Rattle.local_group.proofs.report.settle.Goals as goal

pub returns-clause-gained : goal.returns-clause-gained
returns-clause-gained c =
    subst (λ runs. Gains 1 c.args.job (jobs_of runs) (settled_as c.args.fate c.add.new.self)) (c.in_ok-reserve.ensures.kept c.args.fate)
    (gains_one c.args.job (settled_as c.args.fate c.reserve.new.self) (settled_as c.args.fate c.add.new.self) c.add.ensures.settled.there)
