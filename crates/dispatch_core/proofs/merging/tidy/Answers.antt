use Rattle.std.proofs.Common.{subst}
use Rattle.std.proofs.lemmas.Bool.Decides.{when_true}
use Rattle.dispatch_core.specs.JobRuns.{jobs_of, NoneTwice}
use Rattle.dispatch_core.proofs.Clear.{tidied_joined, tidied_twice}
use Rattle.dispatch_core.proofs.merging.tidy.Goals as goal

pub returns-then-have_common-clause-tidied : goal.returns-then-have_common-clause-tidied
returns-then-have_common-clause-tidied c =
    let twice = subst (λ rs. ¬ NoneTwice (jobs_of rs)) c.deref.ensures.value (when_true _ _ c.if-have_common.true c.have_common.ensures) in
    tidied_twice c.args.runs.now.items c.requires.filled c.requires.sorted twice

pub returns-clause-tidied : goal.returns-clause-tidied
returns-clause-tidied c = tidied_joined c.args.runs.now.items c.join_touching.new.runs.items c.join_touching.ensures.joined
