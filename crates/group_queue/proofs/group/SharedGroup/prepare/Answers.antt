-- All places are there.
use Rattle.std.proofs.Common.{subst}
use Rattle.group_queue.specs.Ends.{place_numbers, HasAll}
use Rattle.group_queue.proofs.group.SharedGroup.prepare.Goals as goal

pub hold-holder-requires-clause-whole : goal.hold-holder-requires-clause-whole
hold-holder-requires-clause-whole g c = subst (λ l. HasAll c.args.self.now.shape.places (place_numbers l)) c.deref.ensures.value c.in_ok-check.ensures.all_places
