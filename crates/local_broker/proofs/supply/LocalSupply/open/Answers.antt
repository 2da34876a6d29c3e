use Rattle.local_broker.proofs.Opened.{new_law, new_out}
use Rattle.local_broker.proofs.supply.LocalSupply.open.Goals as goal

pub invariant_of-result : goal.invariant_of-result
invariant_of-result c = record { desk = new_law c.in_ok-desk.desk c.in_ok-desk.ensures; groups = c.in_ok-groups.ensures.many; out = new_out c.in_ok-desk.desk c.in_ok-desk.ensures }
