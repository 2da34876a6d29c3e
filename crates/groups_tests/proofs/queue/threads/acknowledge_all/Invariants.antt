-- The place stays one of the group.
use Rattle.group_queue.specs.Places.{IsPlaceOf}
use Rattle.groups_tests.proofs.queue.threads.acknowledge_all.Given as goal

abbrev pub invariant-loop-round : goal.invariant-loop-round
invariant-loop-round g l = IsPlaceOf l.group l.place
