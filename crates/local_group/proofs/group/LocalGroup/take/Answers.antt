use Rattle.std.proofs.Common.{◌+◌, arith, sym, subst}
use Rattle.local_group.specs.Keeping.{IsKept}
use Rattle.local_group.proofs.Steps.{first_may, kept_first, left_most}
use Rattle.local_group.proofs.group.LocalGroup.take.Goals as goal

pub note-requires : goal.note-requires
note-requires c =
    first_may c.self.inside.state c.self.inside.events.items c.self.inside.queue.items c.self.inside.returned.items c.self.inside.out c.args.place c.in-Some.job (sym c.in-Some.ensures) c.requires.place (sym c.if-closed.ensures.value) c.self.invariant.0

pub invariant_of-self-2 : goal.invariant_of-self-2
invariant_of-self-2 c =
    let roomy = c.self.invariant.1 in
    let told = c.in_ok-note.ensures in
    let front = c.take_front-waiting.ensures in
    let way_back = c.in_ok-make_way_back.ensures in (
      subst (λ back. IsKept c.note.new.state c.note.new.events.items c.take_front-waiting.new.waiting.items back (c.self.inside.out + 1)) (sym way_back.items)
          (subst (λ es. IsKept c.note.new.state es c.take_front-waiting.new.waiting.items c.self.inside.returned.items (c.self.inside.out + 1)) (sym told.noted)
          (kept_first c.self.inside.state c.note.new.state c.self.inside.events.items c.self.inside.queue.items c.take_front-waiting.result c.take_front-waiting.new.waiting.items c.self.inside.returned.items c.self.inside.out c.args.place c.in-Some.job front.front (sym c.in-Some.ensures) c.self.invariant.0 told.ok)),
      record {
        room = omega (arith, told.room, left_most c.note.new.state);
        within = omega (arith, roomy.within, front.len);
        fits = omega (arith, roomy.fits, front.capacity);
        way_back = omega (arith, way_back.ok, way_back.len);
      },
    )
