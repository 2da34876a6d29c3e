-- What is left is among all.
use Rattle.std.proofs.Common.{suc, Contains, sym, subst, arith}
use Rattle.group_queue.proofs.comparing.lacking_of.Goals as goal

pub loop-job-preserved : goal.loop-job-preserved
loop-job-preserved c = λ job there. c.loop-job.invariant job (subst (λ jobs. Contains jobs job) (sym c.in-Some.ensures.steps) (suc there.0, omega (arith, there.1), there.2))
