use Rattle.std.proofs.Common.{◌-◌, length, slice_get, Some, sym, ap, ◌∙◌, subst, arith, deque_capacity}
use Rattle.std.proofs.lemmas.Option.{slice_get-get_or}
use Rattle.std.specs.List.{remove}
use Rattle.member_window.specs.Order.{IsOrder}
use Rattle.member_window.proofs.Order.{taken}
use Rattle.member_window.proofs.entries.Entries.remove.Goals as goal

pub invariant_of-self : goal.invariant_of-self
invariant_of-self g c =
    let i = c.self.inside in
    let k = c.in-Some.identifier in
    rw c.remove.ensures.capacity
    (subst (λ es. IsOrder es c.give.new.self.words (i.owed - c.from.result) (deque_capacity i.held)) (sym c.in-Some.ensures.items)
    (taken i.held.items i.free.words i.owed (deque_capacity i.held) c.give.new.self.words k c.give.ensures.others c.self.invariant c.args.place c.from.result c.in-Some.item
    (omega (arith, c.requires, ap (λ h. length h.all) c.self.view_is)) c.in-Some.ensures.value c.give.ensures.this c.from.ensures))

pub returns-clause-value : goal.returns-clause-value
returns-clause-value g c =
    let i = c.self.inside in
    ap (λ h. slice_get h.all c.args.place) (sym c.self.view_is)
    ∙ slice_get-get_or i.held.items c.args.place (c.in-Some.identifier, c.in-Some.item) (omega (arith, c.requires, ap (λ h. length h.all) c.self.view_is))
    ∙ ap Some (sym c.in-Some.ensures.value)

pub returns-clause-all : goal.returns-clause-all
returns-clause-all g c = c.in-Some.ensures.items ∙ ap (λ h. remove h.all c.args.place) c.self.view_is
