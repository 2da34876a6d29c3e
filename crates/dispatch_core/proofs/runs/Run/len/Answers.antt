use Rattle.std.proofs.Common.{◌+◌, ◌-◌, arith}
use Rattle.dispatch_core.proofs.JobLists.{length-jobs_from}
use Rattle.dispatch_core.proofs.runs.Run.len.Goals as goal

pub returns : goal.returns
returns c =
    let run = c.args.self.now in
    let count = run.last + 1 - run.from in
    omega (arith, length-jobs_from run.port run.from count, c.requires.not_empty)
