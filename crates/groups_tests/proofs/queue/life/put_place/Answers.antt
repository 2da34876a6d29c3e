-- The place is put after the others.
use Rattle.std.proofs.lemmas.List.Elements.{All-push}
use Rattle.group_queue.specs.Places.{IsPlaceOf}
use Rattle.groups_tests.proofs.queue.life.put_place.Goals as goal

pub returns-in-Ok : goal.returns-in-Ok
returns-in-Ok c = rw (c.push.ensures.items, c.in-Ok.is) (All-push (IsPlaceOf c.args.group.now) c.args.places.now.items c.args.place c.requires.places c.requires.place)
