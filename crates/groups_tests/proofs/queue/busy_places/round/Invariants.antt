-- The port and the places stay those of the group.
use Rattle.std.proofs.Common.{All}
use Rattle.group_queue.specs.Ports.{IsPortOf}
use Rattle.group_queue.specs.Places.{IsPlaceOf}
use Rattle.groups_tests.proofs.queue.busy_places.round.Given as goal

abbrev pub invariant-places : goal.invariant-places
invariant-places g l = record {
  port : IsPortOf l.group l.port;
  left : All (IsPlaceOf l.group) l.places.items;
  done : All (IsPlaceOf l.group) l.done.items;
}
