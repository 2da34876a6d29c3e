-- Nothing changed but the room of the docket.
use Rattle.group_queue.proofs.Places.{keeps_place}
use Rattle.group_queue.proofs.place.Place.reserve.Goals as goal

pub invariant_of-self : goal.invariant_of-self
invariant_of-self g c = (keeps_place _ _ _ _ _ c.self.invariant.0 c.reserve.ensures.out c.reserve.ensures.settled, c.self.invariant.1, c.self.invariant.2, c.self.invariant.3)
