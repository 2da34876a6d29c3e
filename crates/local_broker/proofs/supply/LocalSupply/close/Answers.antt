use Rattle.std.proofs.Common.{arith}
use Rattle.local_broker.proofs.Closed.{all_shut, not_open}
use Rattle.local_broker.proofs.supply.LocalSupply.close.Goals as goal

pub returns-clause-closed : goal.returns-clause-closed
returns-clause-closed c = all_shut c.self.inside.groups.items c.close_each.new.groups.items c.close_each.ensures

pub returns-clause-told : goal.returns-clause-told
returns-clause-told c =
    let many = c.self.invariant.groups in
    let as_many = c.close_each.ensures.as_many in
    not_open c.close_each.new.groups.items (omega arith) (all_shut c.self.inside.groups.items c.close_each.new.groups.items c.close_each.ensures)
