use Rattle.session_desk.specs.Calls.{Park}
use Rattle.local_broker.proofs.Desks.{kept}
use Rattle.local_broker.proofs.calls.LocalSupplySupplyLocalPlace.park.Goals as goal

pub invariant_of-self : goal.invariant_of-self
invariant_of-self c =
    let i = c.self.inside in
    kept i.desk c.park.new.self i.routes i.groups.items (Park c.args.session c.args.now c.park.result) c.self.invariant c.requires.going c.requires.out c.park.ensures
