use Rattle.std.proofs.Common.{◌≡◌, ℕ, ◌+◌, rules, Some, cond, sym, ap, ◌∙◌, subst, nat_eq}
use Rattle.std.specs.FinMap as map
use Rattle.std.specs.Cmp.Lexicographic.{pointwise}
use Rattle.session_desk.specs.Rows.{is_living, away, begun, moved, new_row, next_who}
use Rattle.session_desk.specs.Layout.{AreKept, number_at, seen}
use Rattle.session_desk.proofs.Kept.{registered, kept_begin_over, fresh_after}
use Rattle.session_desk.proofs.table.Table.begin_over.Goals as goal

pub into_parked-ended-requires : goal.into_parked-ended-requires
into_parked-ended-requires g c =
    let has = ap (λ es. map.get (seen es) c.args.old) c.prepare.ensures.rows ∙ ap (λ r. map.get r.rows c.args.old) c.self.view_is ∙ c.requires.2 in
    (c.requires.1, (c.dismiss.ensures.rows c.requires.0 has).0 ∙ c.requires.3)

pub add-requires-clause-new : goal.add-requires-clause-new
add-requires-clause-new g c =
    let i = c.self.inside in
    let there = ap (λ r. map.get r.rows c.args.old) c.self.view_is ∙ c.requires.2 in
    let has = ap (λ es. map.get (seen es) c.args.old) c.prepare.ensures.rows ∙ there in
    ap (λ r. map.get r i.made) ((c.dismiss.ensures.rows c.requires.0 has).1 ∙ ap (λ es. map.insert (seen es) c.args.old (away c.requires.0.client)) c.prepare.ensures.rows)
    ∙ fresh_after (seen i.rows.entries) _ i.made i.soonest c.args.old c.requires.0 (away c.requires.0.client) c.self.invariant there

pub invariant_of-self-2 : goal.invariant_of-self-2
invariant_of-self-2 g c =
    let i = c.self.inside in
    let row = c.requires.0 in
    let copies = c.in_ok-copies.ensures.copies in
    let made : c.in-Some.made ≡ i.made + 1 = search rules in
    let there = ap (λ r. map.get r.rows c.args.old) c.self.view_is ∙ c.requires.2 in
    let has = ap (λ es. map.get (seen es) c.args.old) c.prepare.ensures.rows ∙ there in
    let ended = (c.dismiss.ensures.rows row has).1 ∙ ap (λ es. map.insert (seen es) c.args.old (away row.client)) c.prepare.ensures.rows in
    let rows = c.add.ensures ∙ (λ j. map.insert (ended j) i.made (c.lent.ensures j)) ∙ ap (λ t. map.insert (map.insert (seen i.rows.entries) c.args.old (away row.client)) i.made (new_row t c.args.connection)) copies.0 in
    subst (λ (m : ℕ). AreKept (seen c.add.new.rows.entries) (number_at c.set_number.new.living.entries) m i.soonest) (sym made)
    (subst (λ r. AreKept r (number_at c.set_number.new.living.entries) (i.made + 1) i.soonest) (sym rows)
    (kept_begin_over (seen i.rows.entries) (number_at i.living.entries) _ i.made i.soonest c.args.old c.args.connection row c.args.client.now c.self.invariant there (ap is_living c.requires.3) c.requires.4
    (λ other. c.set_number.ensures other ∙ (λ j. cond (pointwise nat_eq (copies.1 j) other) (Some i.made) (number_at (c.prepare.ensures.living j) other)))))

pub returns-clause-ok : goal.returns-clause-ok
returns-clause-ok g c = λ row has.
    let i = c.self.inside in
    let copies = c.in_ok-copies.ensures.copies in
    let made : c.in-Some.made ≡ i.made + 1 = search rules in
    let there = ap (λ es. map.get (seen es) c.args.old) c.prepare.ensures.rows ∙ ap (λ r. map.get r.rows c.args.old) c.self.view_is ∙ has in
    let ended = c.dismiss.ensures.rows row there in
    let rows = c.add.ensures ∙ (λ j. map.insert ((ended.1 ∙ ap (λ es. map.insert (seen es) c.args.old (away row.client)) c.prepare.ensures.rows) j) i.made (c.lent.ensures j))
    ∙ ap (λ t. map.insert (map.insert (seen i.rows.entries) c.args.old (away row.client)) i.made (new_row t c.args.connection)) copies.0 in (
      sym ended.0 ∙ c.into_parked-ended.ensures,
      c.new.ensures ∙ (λ j. next_who (c.self.view_is j) (copies.2 j)),
      (λ j. registered (rows j) (made j)) ∙ ap (λ r. begun (moved r c.args.old (away row.client)) c.args.client.now c.args.connection) c.self.view_is,
    )
