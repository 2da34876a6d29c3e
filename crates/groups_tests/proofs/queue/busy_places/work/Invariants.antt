-- The port and the places stay those of the group.
use Rattle.std.proofs.Common.{All}
use Rattle.group_queue.specs.Ports.{IsPortOf}
use Rattle.group_queue.specs.Places.{IsPlaceOf}
use Rattle.groups_tests.proofs.queue.busy_places.work.Given as goal

abbrev pub invariant-rounds : goal.invariant-rounds
invariant-rounds g l = record {
  port : IsPortOf l.group l.port;
  places : All (IsPlaceOf l.group) l.places.items;
}
