use Rattle.std.proofs.Common.{◌≡◌, ◌-◌, [], ◌∷◌, ◌++◌, Some, ap, ◌∙◌, arith, sym, subst}
use Rattle.dispatch_core.specs.declared.event.Spot.TheVariants.{Held}
use Rattle.dispatch_core.specs.GroupState.{spot_of}
use Rattle.dispatch_core.specs.Step.{Step, MayHappen}
use Rattle.group_jobs.specs.Stamps.{job_of}
use Rattle.local_group.specs.Groups.{Group, event_of}
use Rattle.local_group.specs.Keeping.{IsKept}
use Rattle.local_group.proofs.Steps.{may_fate, kept_fate}
use Rattle.local_group.proofs.group.LocalGroup.settle.Goals as goal

pub conclude-requires-clause-may : goal.conclude-requires-clause-may
conclude-requires-clause-may c =
    let place = c.place-place.result in
    let job = c.job.result in
    let there : spot_of c.self.inside.state (job_of c.args.envelope.stamp) ≡ Some (Held c.args.envelope.place) =
    subst (λ (g : Group). spot_of g.state (job_of c.args.envelope.stamp) ≡ Some (Held c.args.envelope.place)) (sym c.self.view_is) c.requires.held.there in
    let same_job : job ≡ job_of c.args.envelope.stamp = c.job.ensures ∙ ap (λ opened. job_of opened.0) c.open-message.ensures in
    let held : spot_of c.self.inside.state job ≡ Some (Held place) =
    subst (λ j. spot_of c.self.inside.state j ≡ Some (Held place)) (sym same_job) (subst (λ p. spot_of c.self.inside.state (job_of c.args.envelope.stamp) ≡ Some (Held p)) (sym c.place-place.ensures) there) in
    subst (MayHappen c.self.inside.state) (sym c.event_of-event.ensures) (may_fate c.args.fate c.self.inside.state place job c.self.invariant.0.ranged held)

pub invariant_of-self : goal.invariant_of-self
invariant_of-self c =
    let roomy = c.self.invariant.1 in
    let told = c.conclude.ensures in
    let place = c.place-place.result in
    let job = c.job.result in
    let event = event_of c.args.fate place job in
    let step : Step c.self.inside.state event c.conclude.new.state = subst (λ e. Step c.self.inside.state e c.conclude.new.state) c.event_of-event.ensures told.step in
    let kept = kept_fate c.args.fate c.self.inside.state c.conclude.new.state c.self.inside.events.items c.self.inside.queue.items c.self.inside.returned.items c.self.inside.out place job c.self.invariant.0 step in (
      subst (λ es. IsKept c.conclude.new.state es c.self.inside.queue.items c.self.inside.returned.items (c.self.inside.out - 1)) (sym (subst (λ e. c.conclude.new.events.items ≡ c.self.inside.events.items ++ e ∷ []) c.event_of-event.ensures told.noted)) kept.0,
      record { room = omega (arith, kept.1, roomy.room, told.longer, told.capacity, kept.2); within = roomy.within; fits = roomy.fits; way_back = omega (arith, roomy.way_back, kept.1) },
    )
