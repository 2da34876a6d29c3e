-- The port stays one of the group.
use Rattle.group_queue.specs.Ports.{IsPortOf}
use Rattle.groups_tests.proofs.queue.row.offer_four.Given as goal

abbrev pub invariant-loop : goal.invariant-loop
invariant-loop g l = IsPortOf l.group l.port
