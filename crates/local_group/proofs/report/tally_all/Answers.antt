use Rattle.std.proofs.Common.{◌≡◌, subst, arith}
use Rattle.local_group.specs.Tallies.{Tallies}
use Rattle.local_group.proofs.report.tally_all.Goals as goal

pub returns-clause-jobs : goal.returns-clause-jobs
returns-clause-jobs c = let all : c.loop-port.port ≡ 64 = omega arith in subst (λ port. Tallies c.args.state.now port 0 c.loop-port.tally) all c.loop-port.invariant.0
