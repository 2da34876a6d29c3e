-- A place is in balance.
use Rattle.std.proofs.Common.{subst}
use Rattle.group_queue.specs.Places.{IsBalanced}
use Rattle.group_queue.proofs.ending.join_place.Goals as goal

pub returns-clause-balanced : goal.returns-clause-balanced
returns-clause-balanced g c = subst IsBalanced c.place.view_is c.place.invariant.0.balanced
