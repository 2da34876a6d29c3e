use Rattle.std.proofs.Common.{length, Contains, sym, ap, subst, arith, deque_capacity}
use Rattle.member_window.specs.Identifiers.{identifiers}
use Rattle.member_window.specs.Order.{IsOrder}
use Rattle.member_window.proofs.Order.{put_in_front}
use Rattle.member_window.proofs.entries.Entries.push_front.Goals as goal

pub invariant_of-self : goal.invariant_of-self
invariant_of-self g c =
    let i = c.self.inside in
    let k = c.args.identifier in
    rw c.push_front_reserved.ensures.capacity
    (subst (λ es. IsOrder es c.take.new.self.words i.owed (deque_capacity i.held)) (sym c.push_front_reserved.ensures.items)
    (put_in_front i.held.items i.free.words i.owed (deque_capacity i.held) c.take.new.self.words k c.take.ensures.others c.self.invariant c.args.item (omega (arith, c.requires.few, ap (λ h. length h.all) c.self.view_is))
    c.requires.in_range.0 c.requires.in_range.1 (subst (λ h. ¬ Contains (identifiers h.all) k) (sym c.self.view_is) c.requires.free) c.take.ensures.this))
