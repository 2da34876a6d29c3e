-- One envelope more is among these.
use Rattle.std.proofs.Common.{All, subst}
use Rattle.std.proofs.lemmas.List.{take_all}
use Rattle.std.proofs.lemmas.List.Elements.{All-more}
use Rattle.dispatch_core.specs.JobRuns.{jobs_of}
use Rattle.group_jobs.specs.declared.stamp.Stamp.{Stamp}
use Rattle.group_jobs.specs.Stamps.{Held}
use Rattle.group_queue.specs.Known.{IsAmong}
use Rattle.group_queue.proofs.group.SharedGroup.first_stranger.Goals as goal

pub loop-envelope-preserved : goal.loop-envelope-preserved
loop-envelope-preserved g c =
    let P : Held → Type 0 = λ e. IsAmong c.args.self.now (jobs_of c.args.out.now.runs) e.stamp in
    All-more P c.args.held.now c.loop-envelope.envelope-index c.envelope-item.result c.loop-envelope-test.true c.loop-envelope.invariant
    (subst P c.envelope-item.is (subst (λ (s : Stamp). IsAmong c.args.self.now (jobs_of c.args.out.now.runs) s) c.stamp.ensures (c.is_among.ensures.0 c.if-not-is_among.false)))

pub returns : goal.returns
returns g c =
    let P : Held → Type 0 = λ e. IsAmong c.args.self.now (jobs_of c.args.out.now.runs) e.stamp in
    subst (All P) (take_all c.loop-envelope.envelope-index c.args.held.now c.loop-envelope-test.false) c.loop-envelope.invariant
