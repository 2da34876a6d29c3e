use Rattle.session_desk.specs.Calls.{Bury}
use Rattle.local_broker.proofs.Desks.{kept}
use Rattle.local_broker.proofs.calls.LocalSupplySupplyLocalPlace.bury.Goals as goal

pub invariant_of-self : goal.invariant_of-self
invariant_of-self c =
    let i = c.self.inside in
    kept i.desk c.bury.new.self i.routes i.groups.items (Bury c.args.session c.bury.result) c.self.invariant tt c.requires.out c.bury.ensures
