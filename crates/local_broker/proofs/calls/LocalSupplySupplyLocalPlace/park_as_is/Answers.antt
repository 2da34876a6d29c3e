use Rattle.session_desk.specs.Calls.{ParkAsIs}
use Rattle.local_broker.proofs.Desks.{kept}
use Rattle.local_broker.proofs.calls.LocalSupplySupplyLocalPlace.park_as_is.Goals as goal

pub invariant_of-self : goal.invariant_of-self
invariant_of-self c =
    let i = c.self.inside in
    kept i.desk c.park_as_is.new.self i.routes i.groups.items (ParkAsIs c.args.session c.park_as_is.result) c.self.invariant c.requires.going c.requires.out c.park_as_is.ensures
