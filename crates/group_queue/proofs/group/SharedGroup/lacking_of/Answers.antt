-- One job more has its envelopes.
use Rattle.std.proofs.Common.{◌≤◌, All, sym, subst, arith, ap, ◌∙◌}
use Rattle.std.specs.VecDeque.Iter.{deque_iter_rest}
use Rattle.std.proofs.lemmas.List.Elements.{All-cons}
use Rattle.dispatch_core.specs.declared.event.Job.{Job}
use Rattle.group_jobs.specs.Stamps.{stamp_of}
use Rattle.group_queue.specs.Ends.{times_held, times_out}
use Rattle.group_queue.proofs.group.SharedGroup.lacking_of.Goals as goal

pub loop-job-preserved : goal.loop-job-preserved
loop-job-preserved g c = λ left.
    let P : Job → Type 0 = λ job. times_out c.args.self.now (stamp_of c.args.self.now.slot job) c.args.places.now ≤ times_held (stamp_of c.args.self.now.slot job) c.args.held.now in
    let job = c.in-Some.job.now in
    let stamp = c.of-stamp.ensures ∙ ap (λ slot. stamp_of slot job) (ap (λ g. g.slot) c.self.view_is) in
    let enough : times_out c.args.self.now c.of-stamp.result c.args.places.now ≤ times_held c.of-stamp.result c.args.held.now = omega (arith, c.if-times_held-times_out.false, c.times_out.ensures, c.times_held.ensures) in
    c.loop-job.invariant (subst (All P) (sym c.in-Some.ensures.steps) (All-cons P job (deque_iter_rest c.next.new.self) (subst (λ s. times_out c.args.self.now s c.args.places.now ≤ times_held s c.args.held.now) stamp enough) left))

pub returns : goal.returns
returns g c = c.loop-job.invariant (λ k d less. absurd (omega (arith, less, c.in-None.ensures.steps.0)))
