use Rattle.dispatch_core.proofs.Kept.{kept_hand_out}
use Rattle.dispatch_core.proofs.state.State.hand_out.Goals as goal

pub invariant_of-self-2 : goal.invariant_of-self-2
invariant_of-self-2 c =
    let i = c.self.inside in
    (kept_hand_out i.ports.items i.members.items i.closed c.args.self.now c.args.member c.args.job c.from-2.result c.from.result c.index_mut-2.result.now c.hand_out.new.self c.index_mut.result.now c.note.new.self c.self.view_is c.self.invariant c.from-2.ensures c.from.ensures c.index_mut-2.ensures.value c.index_mut.ensures.value c.requires c.hand_out.ensures c.in_ok-note.ensures.ok).0

pub returns-clause-ok : goal.returns-clause-ok
returns-clause-ok c =
    let i = c.self.inside in
    (kept_hand_out i.ports.items i.members.items i.closed c.args.self.now c.args.member c.args.job c.from-2.result c.from.result c.index_mut-2.result.now c.hand_out.new.self c.index_mut.result.now c.note.new.self c.self.view_is c.self.invariant c.from-2.ensures c.from.ensures c.index_mut-2.ensures.value c.index_mut.ensures.value c.requires c.hand_out.ensures c.in_ok-note.ensures.ok).1
