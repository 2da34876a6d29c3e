-- Nothing that is out lacks an envelope.
use Rattle.std.proofs.Common.{◌≤◌, All, subst, ap, ◌∙◌}
use Rattle.std.proofs.lemmas.List.{take_all}
use Rattle.std.proofs.lemmas.List.Elements.{All-more}
use Rattle.dispatch_core.specs.declared.event.Job.{Job}
use Rattle.group_jobs.specs.Stamps.{stamp_of}
use Rattle.group_queue.specs.Ends.{times_held, times_out}
use Rattle.group_queue.proofs.Checks.{none_lacks, HasEnvelopes}
use Rattle.group_queue.proofs.group.SharedGroup.lacking_envelope.Goals as goal

pub returns : goal.returns
returns g c =
    none_lacks c.args.self.now c.args.places.now c.args.held.now
    (subst (All (HasEnvelopes c.args.self.now c.args.places.now c.args.held.now)) (take_all c.loop-place.place-index c.args.places.now c.loop-place-test.false) c.loop-place.invariant)

pub loop-place-preserved : goal.loop-place-preserved
loop-place-preserved g c =
    All-more (HasEnvelopes c.args.self.now c.args.places.now c.args.held.now) c.args.places.now c.loop-place.place-index c.place-item.result c.loop-place-test.true c.loop-place.invariant
    (subst (HasEnvelopes c.args.self.now c.args.places.now c.args.held.now) c.place-item.is
    (subst (All (λ (job : Job). times_out c.args.self.now (stamp_of c.args.self.now.slot job) c.args.places.now ≤ times_held (stamp_of c.args.self.now.slot job) c.args.held.now)) (c.out.ensures ∙ ap (λ p. p.docket.out) c.place.view_is) c.in_default.ensures))
