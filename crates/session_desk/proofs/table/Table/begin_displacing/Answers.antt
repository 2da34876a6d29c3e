use Rattle.std.proofs.Common.{◌≡◌, ℕ, ◌+◌, rules, None, Some, cond, sym, ap, ◌∙◌, subst, nat_eq}
use Rattle.std.specs.FinMap as map
use Rattle.std.specs.Cmp.Lexicographic.{pointwise}
use Rattle.session_desk.specs.Rows.{is_living, away, begun, moved, new_row, next_who, NoneLivesAs}
use Rattle.session_desk.specs.Layout.{AreKept, number_at, seen}
use Rattle.session_desk.proofs.Kept.{registered, kept_displace, fresh_after, still_away}
use Rattle.session_desk.proofs.table.Table.begin_displacing.Goals as goal

pub into_parked-ended-requires : goal.into_parked-ended-requires
into_parked-ended-requires g c =
    let has = ap (λ es. map.get (seen es) c.args.old) c.prepare.ensures.rows ∙ ap (λ r. map.get r.rows c.args.old) c.self.view_is ∙ c.requires.2 in
    (c.requires.1, (c.dismiss.ensures.rows c.requires.0 has).0 ∙ c.requires.3)

pub add-requires-clause-new : goal.add-requires-clause-new
add-requires-clause-new g c =
    let i = c.self.inside in
    let there = ap (λ r. map.get r.rows c.args.old) c.self.view_is ∙ c.requires.2 in
    let has = ap (λ es. map.get (seen es) c.args.old) c.prepare.ensures.rows ∙ there in
    ap (λ r. map.get r i.made) ((c.dismiss.ensures.rows c.requires.0 has).1 ∙ ap (λ es. map.insert (seen es) c.args.old (away c.requires.0.client)) c.prepare.ensures.rows)
    ∙ fresh_after (seen i.rows.entries) _ i.made i.soonest c.args.old c.requires.0 (away c.requires.0.client) c.self.invariant there

pub forget_of-requires : goal.forget_of-requires
forget_of-requires g c =
    let i = c.self.inside in
    let row = c.requires.0 in
    let there = ap (λ r. map.get r.rows c.args.old) c.self.view_is ∙ c.requires.2 in
    let has = ap (λ es. map.get (seen es) c.args.old) c.prepare.ensures.rows ∙ there in
    let ended = (c.dismiss.ensures.rows row has).1 ∙ ap (λ es. map.insert (seen es) c.args.old (away row.client)) c.prepare.ensures.rows in (
      away row.client,
      ap (λ r. map.get r c.args.old) c.add.ensures ∙ ap (λ r. map.get (map.insert r i.made c.lent.result) c.args.old) ended
          ∙ still_away (seen i.rows.entries) _ i.made i.soonest c.args.old row c.lent.result c.self.invariant there,
    )

pub invariant_of-self-2 : goal.invariant_of-self-2
invariant_of-self-2 g c =
    let i = c.self.inside in
    let row = c.requires.0 in
    let copies = c.in_ok-copies.ensures.copies in
    let made : c.in-Some.made ≡ i.made + 1 = search rules in
    let there = ap (λ r. map.get r.rows c.args.old) c.self.view_is ∙ c.requires.2 in
    let has = ap (λ es. map.get (seen es) c.args.old) c.prepare.ensures.rows ∙ there in
    let ended = (c.dismiss.ensures.rows row has).1 ∙ ap (λ es. map.insert (seen es) c.args.old (away row.client)) c.prepare.ensures.rows in
    let still = ap (λ r. map.get r c.args.old) c.add.ensures ∙ ap (λ r. map.get (map.insert r i.made c.lent.result) c.args.old) ended
    ∙ still_away (seen i.rows.entries) _ i.made i.soonest c.args.old row c.lent.result c.self.invariant there in
    let rows = c.add.ensures ∙ (λ j. map.insert (ended j) i.made (c.lent.ensures j)) ∙ ap (λ t. map.insert (map.insert (seen i.rows.entries) c.args.old (away row.client)) i.made (new_row t c.args.connection)) copies.0 in
    subst (λ (m : ℕ). AreKept (seen c.add.new.rows.entries) (number_at c.forget_of.new.living.entries) m i.soonest) (sym made)
    (subst (λ r. AreKept r (number_at c.forget_of.new.living.entries) (i.made + 1) i.soonest) (sym rows)
    (kept_displace (seen i.rows.entries) (number_at i.living.entries) _ i.made i.soonest c.args.old c.args.connection row c.args.client.now c.self.invariant there (ap is_living c.requires.3)
    (subst (λ r. NoneLivesAs r.rows c.args.client.now) (sym c.self.view_is) c.requires.4)
    (λ other. c.forget_of.ensures (away row.client) still other
    ∙ ap (cond (pointwise nat_eq row.client other) None) (c.set_number.ensures other ∙ (λ j. cond (pointwise nat_eq (copies.1 j) other) (Some i.made) (number_at (c.prepare.ensures.living j) other))))))

pub returns-clause-ok : goal.returns-clause-ok
returns-clause-ok g c = λ row has.
    let i = c.self.inside in
    let copies = c.in_ok-copies.ensures.copies in
    let made : c.in-Some.made ≡ i.made + 1 = search rules in
    let there = ap (λ es. map.get (seen es) c.args.old) c.prepare.ensures.rows ∙ ap (λ r. map.get r.rows c.args.old) c.self.view_is ∙ has in
    let ended = c.dismiss.ensures.rows row there in
    let rows = c.add.ensures ∙ (λ j. map.insert ((ended.1 ∙ ap (λ es. map.insert (seen es) c.args.old (away row.client)) c.prepare.ensures.rows) j) i.made (c.lent.ensures j))
    ∙ ap (λ t. map.insert (map.insert (seen i.rows.entries) c.args.old (away row.client)) i.made (new_row t c.args.connection)) copies.0 in (
      sym ended.0 ∙ c.into_parked-ended.ensures,
      c.new.ensures ∙ (λ j. next_who (c.self.view_is j) (copies.2 j)),
      (λ j. registered (rows j) (made j)) ∙ ap (λ r. begun (moved r c.args.old (away row.client)) c.args.client.now c.args.connection) c.self.view_is,
    )
