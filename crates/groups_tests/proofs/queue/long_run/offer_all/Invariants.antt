-- The port and the place stay those of the group.
use Rattle.group_queue.specs.Ports.{IsPortOf}
use Rattle.group_queue.specs.Places.{IsPlaceOf}
use Rattle.groups_tests.proofs.queue.long_run.offer_all.Given as goal

abbrev pub invariant-offers : goal.invariant-offers
invariant-offers g l = IsPortOf l.group l.port × IsPlaceOf l.group l.place
