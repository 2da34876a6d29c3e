-- What was out is settled.
use Rattle.group_queue.proofs.Places.{settles_hands}
use Rattle.group_queue.proofs.place.Place.settle.Goals as goal

pub invariant_of-self : goal.invariant_of-self
invariant_of-self g c = (settles_hands _ _ _ _ _ _ _ c.self.invariant.0 c.settle.ensures.out c.settle.ensures.settled, c.self.invariant.1, c.self.invariant.2, c.self.invariant.3)
