use Rattle.std.proofs.Common.{◌≡◌, ℕ, ◌+◌, rules, Some, cond, sym, ap, ◌∙◌, subst, nat_eq}
use Rattle.std.specs.FinMap as map
use Rattle.std.specs.Cmp.Lexicographic.{pointwise}
use Rattle.session_desk.specs.Rows.{new_row, NoneLivesAs}
use Rattle.session_desk.specs.Layout.{AreKept, number_at, seen}
use Rattle.session_desk.proofs.Kept.{kept_begin}
use Rattle.session_desk.proofs.table.Table.begin.Goals as goal

pub invariant_of-self-2 : goal.invariant_of-self-2
invariant_of-self-2 g c =
    let i = c.self.inside in
    let copies = c.in_ok-copies.ensures.copies in
    let made : c.in-Some.made ≡ i.made + 1 = search rules in
    let rows = c.add.ensures ∙ (λ j. map.insert (seen (c.prepare.ensures.rows j)) i.made (c.lent.ensures j)) ∙ ap (λ t. map.insert (seen i.rows.entries) i.made (new_row t c.args.connection)) copies.0 in
    subst (λ (m : ℕ). AreKept (seen c.add.new.rows.entries) (number_at c.set_number.new.living.entries) m i.soonest) (sym made)
    (subst (λ r. AreKept r (number_at c.set_number.new.living.entries) (i.made + 1) i.soonest) (sym rows)
    (kept_begin (seen i.rows.entries) (number_at i.living.entries) _ i.made i.soonest c.args.connection c.args.client.now c.self.invariant
    (subst (λ r. NoneLivesAs r.rows c.args.client.now) (sym c.self.view_is) c.requires)
    (λ other. c.set_number.ensures other ∙ (λ j. cond (pointwise nat_eq (copies.1 j) other) (Some i.made) (number_at (c.prepare.ensures.living j) other)))))
