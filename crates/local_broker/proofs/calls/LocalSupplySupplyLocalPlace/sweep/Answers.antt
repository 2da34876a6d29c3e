use Rattle.std.proofs.Common.{refl, subst}
use Rattle.session_desk.specs.Calls.{Sweep}
use Rattle.local_broker.specs.Broker.{Broker}
use Rattle.local_broker.specs.Calls.{AsksDesk}
use Rattle.local_broker.proofs.Desks.{kept, comes_out}
use Rattle.local_broker.proofs.calls.LocalSupplySupplyLocalPlace.sweep.Goals as goal

pub invariant_of-self : goal.invariant_of-self
invariant_of-self c =
    let i = c.self.inside in
    kept i.desk c.sweep.new.self i.routes i.groups.items (Sweep c.args.now c.sweep.result) c.self.invariant tt tt c.sweep.ensures

pub returns-clause-called : goal.returns-clause-called
returns-clause-called c =
    let i = c.self.inside in
    let new : Broker = record { desk = c.sweep.new.self; routes = i.routes; groups = i.groups.items } in
    subst (λ (old : Broker). AsksDesk old (Sweep c.args.now c.sweep.result) new) c.self.view_is
    (record { allowed = tt; makes = c.sweep.ensures; routes = refl; groups = refl })

pub returns-clause-out : goal.returns-clause-out
returns-clause-out c =
    let i = c.self.inside in
    comes_out i.desk c.sweep.new.self i.routes i.groups.items (Sweep c.args.now c.sweep.result) c.self.invariant tt c.sweep.ensures
