use Rattle.dispatch_core.proofs.Kept.{kept_put}
use Rattle.dispatch_core.proofs.state.State.put.Goals as goal

pub invariant_of-self : goal.invariant_of-self
invariant_of-self c =
    let i = c.self.inside in
    (kept_put i.ports.items i.members.items i.closed c.args.self.now c.args.job c.args.spot c.from.result c.index_mut.result.now c.put.new.self c.self.view_is c.self.invariant c.from.ensures c.requires.in_range c.index_mut.ensures.value c.requires.accepted c.requires.was c.requires.is c.put.ensures).0

pub returns-clause-moved : goal.returns-clause-moved
returns-clause-moved c =
    let i = c.self.inside in
    (kept_put i.ports.items i.members.items i.closed c.args.self.now c.args.job c.args.spot c.from.result c.index_mut.result.now c.put.new.self c.self.view_is c.self.invariant c.from.ensures c.requires.in_range c.index_mut.ensures.value c.requires.accepted c.requires.was c.requires.is c.put.ensures).1
