use Rattle.std.proofs.Common.{◌-◌, [], ◌∷◌, ◌++◌, arith, sym, subst, ap}
use Rattle.dispatch_core.specs.declared.event.Event.TheVariants.{Back}
use Rattle.dispatch_core.specs.declared.event.Spot.TheVariants.{Returned}
use Rattle.local_group.specs.declared.waiting.Waiting.{Waiting}
use Rattle.local_group.specs.Keeping.{IsKept}
use Rattle.group_jobs.specs.Spots.{times_out}
use Rattle.local_group.proofs.Spots.{one_out}
use Rattle.local_group.proofs.Steps.{kept_back, left_same}
use Rattle.local_group.proofs.group.LocalGroup.give_back.Goals as goal

pub invariant_of-self : goal.invariant_of-self
invariant_of-self c =
    let roomy = c.self.invariant.1 in
    let told = c.conclude.ensures in
    let behind = c.put_behind.ensures in
    let place = c.place-member.result in
    let job = c.job-job.result in
    let waiting : Waiting = record { job = job; message = c.open-message.result.1 } in
    let moves = told.step.made.0 in
    let one = one_out c.self.inside.state c.conclude.new.state job Returned moves c.self.inside.out c.self.invariant.0.outs (ap times_out told.step.may.ready) in (
      subst (λ es. IsKept c.conclude.new.state es c.self.inside.queue.items c.put_behind.new.waiting.items (c.self.inside.out - 1)) (sym told.noted)
          (subst (λ back. IsKept c.conclude.new.state (c.self.inside.events.items ++ Back place job ∷ []) c.self.inside.queue.items back (c.self.inside.out - 1)) (sym behind.items)
          (kept_back c.self.inside.state c.conclude.new.state c.self.inside.events.items c.self.inside.queue.items c.self.inside.returned.items c.self.inside.out place waiting c.self.invariant.0 told.step)),
      record {
        room = omega (arith, one, roomy.room, told.longer, told.capacity, left_same c.self.inside.state c.conclude.new.state told.step.made.2);
        within = roomy.within;
        fits = roomy.fits;
        way_back = omega (arith, one, roomy.way_back, behind.len, behind.capacity);
      },
    )
