-- Until it gathers the place is as it was.
use Rattle.std.proofs.Common.{subst}
use Rattle.group_queue.specs.Places.{PlaceState}
use Rattle.conn_supply.specs.Holding.{KeepsOut}
use Rattle.broker_groups.specs.Outs.{HasOut}
use Rattle.shared_supply.proofs.settling.gather.Goals as goal

pub returns-in-Ok-true-clause-out : goal.returns-in-Ok-true-clause-out
returns-in-Ok-true-clause-out g c = subst (λ (place : PlaceState). KeepsOut HasOut place c.gather.new.self) c.tries.invariant c.gather.ensures.out
