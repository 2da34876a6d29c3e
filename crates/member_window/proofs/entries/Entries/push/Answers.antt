use Rattle.std.proofs.Common.{◌+◌, length, sym, ap, subst, arith, deque_capacity}
use Rattle.member_window.specs.Identifiers.{identifiers, IsLeastFree}
use Rattle.member_window.specs.Order.{IsOrder}
use Rattle.member_window.proofs.Order.{free_bit, least_free, pushed}
use Rattle.member_window.proofs.entries.Entries.push.Goals as goal

pub least-identifier-requires : goal.least-identifier-requires
least-identifier-requires g c =
    let i = c.self.inside in
    free_bit i.held.items i.free.words i.owed (deque_capacity i.held) c.self.invariant (omega (arith, c.requires.few, ap (λ h. length h.all) c.self.view_is))

pub invariant_of-self : goal.invariant_of-self
invariant_of-self g c =
    let i = c.self.inside in
    let k = c.least-identifier.result in
    rw c.push_back_reserved.ensures.capacity
    (subst (λ es. IsOrder es c.take.new.self.words (i.owed + 1) (deque_capacity i.held)) (sym c.push_back_reserved.ensures.items)
    (pushed i.held.items i.free.words i.owed (deque_capacity i.held) c.take.new.self.words k c.take.ensures.others c.self.invariant c.args.item (omega (arith, c.requires.few, ap (λ h. length h.all) c.self.view_is)) c.least-identifier.ensures c.take.ensures.this))

pub returns-clause-identifier : goal.returns-clause-identifier
returns-clause-identifier g c =
    let i = c.self.inside in
    subst (λ h. IsLeastFree (identifiers h.all) c.least-identifier.result) c.self.view_is
    (least_free i.held.items i.free.words i.owed (deque_capacity i.held) c.self.invariant c.least-identifier.result c.least-identifier.ensures)
