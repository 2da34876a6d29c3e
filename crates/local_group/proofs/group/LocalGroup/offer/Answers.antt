use Rattle.std.proofs.Common.{◌<◌, [], ◌∷◌, ◌++◌, length, arith, sym, ap, subst}
use Rattle.dispatch_core.specs.declared.event.Event.TheVariants.{Accept}
use Rattle.dispatch_core.specs.declared.event.Job.{Job}
use Rattle.local_group.specs.Groups.{waits}
use Rattle.local_group.specs.Keeping.{IsKept}
use Rattle.local_group.proofs.Steps.{kept_accept, left_most}
use Rattle.local_group.proofs.group.LocalGroup.offer.Goals as goal

pub invariant_of-self : goal.invariant_of-self
invariant_of-self c =
    let roomy = c.self.invariant.1 in
    let told = c.in-Ok.ensures in
    let free = subst (λ g. length g.queue < g.capacity) (sym c.self.view_is) c.in_default.ensures.ok.2 in
    let behind = c.put_behind.ensures in
    let job : Job = record { port = c.args.port; number = c.accepted-number.result } in (
      subst (λ es. IsKept c.note.new.state es c.put_behind.new.waiting.items c.self.inside.returned.items c.self.inside.out) (sym told.noted)
          (subst (λ q. IsKept c.note.new.state (c.self.inside.events.items ++ Accept c.args.port ∷ []) q c.self.inside.returned.items c.self.inside.out) (sym behind.items)
          (kept_accept c.self.inside.state c.note.new.state c.self.inside.events.items c.self.inside.queue.items c.self.inside.returned.items c.self.inside.out c.args.port (waits job c.args.message)
          (ap (λ n. record { port = c.args.port; number = n }) c.accepted-number.ensures.value) c.accepted-number.ensures.lawful c.self.invariant.0 told.ok)),
      record {
        room = omega (arith, told.room, left_most c.note.new.state);
        within = omega (arith, behind.len, c.self.inside.queue.ok.0, free);
        fits = omega (arith, roomy.fits, behind.capacity);
        way_back = roomy.way_back;
      },
    )
