use Rattle.std.proofs.Common.{◌+◌, arith, sym, subst}
use Rattle.local_group.specs.Keeping.{IsKept}
use Rattle.local_group.proofs.Steps.{again_may, kept_again, left_most}
use Rattle.local_group.proofs.group.LocalGroup.take_back.Goals as goal

pub note-requires : goal.note-requires
note-requires c =
    again_may c.self.inside.state c.self.inside.events.items c.self.inside.queue.items c.self.inside.returned.items c.self.inside.out c.args.place c.in-Some.job (sym c.in-Some.ensures) c.requires.place (sym c.if-closed.ensures.value) c.self.invariant.0

pub invariant_of-self-2 : goal.invariant_of-self-2
invariant_of-self-2 c =
    let roomy = c.self.invariant.1 in
    let told = c.in_ok-note.ensures in
    let front = c.take_front-waiting.ensures in (
      subst (λ es. IsKept c.note.new.state es c.self.inside.queue.items c.take_front-waiting.new.waiting.items (c.self.inside.out + 1)) (sym told.noted)
          (kept_again c.self.inside.state c.note.new.state c.self.inside.events.items c.self.inside.queue.items c.self.inside.returned.items c.take_front-waiting.result c.take_front-waiting.new.waiting.items c.self.inside.out c.args.place c.in-Some.job front.front (sym c.in-Some.ensures) c.self.invariant.0 told.ok),
      record {
        room = omega (arith, told.room, left_most c.note.new.state);
        within = roomy.within;
        fits = roomy.fits;
        way_back = omega (arith, roomy.way_back, front.len, front.capacity);
      },
    )
