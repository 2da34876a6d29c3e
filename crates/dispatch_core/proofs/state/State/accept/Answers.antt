use Rattle.dispatch_core.proofs.Kept.{kept_accept}
use Rattle.dispatch_core.proofs.state.State.accept.Goals as goal

pub invariant_of-self : goal.invariant_of-self
invariant_of-self c =
    let i = c.self.inside in
    (kept_accept c.accept.result i.ports.items i.members.items i.closed c.args.self.now c.args.port c.from.result c.index_mut.result.now c.accept.new.self c.self.view_is c.self.invariant c.from.ensures c.index_mut.ensures.value c.requires c.accept.ensures.ok c.accept.ensures.err).0

pub returns-clause-ok : goal.returns-clause-ok
returns-clause-ok c =
    let i = c.self.inside in
    (kept_accept c.accept.result i.ports.items i.members.items i.closed c.args.self.now c.args.port c.from.result c.index_mut.result.now c.accept.new.self c.self.view_is c.self.invariant c.from.ensures c.index_mut.ensures.value c.requires c.accept.ensures.ok c.accept.ensures.err).1
