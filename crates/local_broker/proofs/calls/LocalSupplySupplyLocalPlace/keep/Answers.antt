use Rattle.session_desk.specs.Calls.{Keep}
use Rattle.local_broker.proofs.Desks.{kept}
use Rattle.local_broker.proofs.calls.LocalSupplySupplyLocalPlace.keep.Goals as goal

pub invariant_of-self : goal.invariant_of-self
invariant_of-self c =
    let i = c.self.inside in
    kept i.desk c.keep.new.self i.routes i.groups.items (Keep c.args.session c.keep.result) c.self.invariant tt c.requires c.keep.ensures
