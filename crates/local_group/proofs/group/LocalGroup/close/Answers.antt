use Rattle.std.proofs.Common.{sym, subst, arith}
use Rattle.local_group.specs.Keeping.{IsKept}
use Rattle.local_group.proofs.Steps.{kept_close, open_left, closed_left}
use Rattle.local_group.proofs.group.LocalGroup.close.Goals as goal

pub conclude-requires-clause-room : goal.conclude-requires-clause-room
conclude-requires-clause-room c =
    let roomy = c.self.invariant.1 in
    omega (arith, roomy.room, open_left c.self.inside.state (sym c.if-not-closed.ensures.value))

pub invariant_of-self : goal.invariant_of-self
invariant_of-self c =
    let roomy = c.self.invariant.1 in
    let told = c.conclude.ensures in (
      subst (λ es. IsKept c.conclude.new.state es c.self.inside.queue.items c.self.inside.returned.items c.self.inside.out) (sym told.noted)
          (kept_close c.self.inside.state c.conclude.new.state c.self.inside.events.items c.self.inside.queue.items c.self.inside.returned.items c.self.inside.out c.self.invariant.0 told.step),
      record {
        room = omega (arith, roomy.room, told.longer, told.capacity, open_left c.self.inside.state (sym c.if-not-closed.ensures.value), closed_left c.conclude.new.state told.step.made.2);
        within = roomy.within;
        fits = roomy.fits;
        way_back = roomy.way_back;
      },
    )
