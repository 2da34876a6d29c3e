use Rattle.std.proofs.Common.{sym, ap, ◌∙◌, subst, arith}
use Rattle.std.specs.FinMap as map
use Rattle.session_desk.specs.declared.row.Holder.TheVariants.{Parked}
use Rattle.session_desk.specs.Rows.{moved, with_holder}
use Rattle.session_desk.specs.Layout.{AreKept, number_at, seen}
use Rattle.session_desk.proofs.Kept.{registered, kept_park}
use Rattle.session_desk.proofs.table.Table.park.Goals as goal

pub end_lent-requires : goal.end_lent-requires
end_lent-requires g c = (c.requires.1, (c.exchange.ensures c.requires.0 (ap (λ r. map.get r.rows c.args.number) c.self.view_is ∙ c.requires.2)).0 ∙ c.requires.3)

pub invariant_of-self : goal.invariant_of-self
invariant_of-self g c =
    let i = c.self.inside in
    subst (λ rows. AreKept rows (number_at i.living.entries) i.made c.min-self-inside.result) (sym (c.exchange.ensures c.requires.0 (ap (λ r. map.get r.rows c.args.number) c.self.view_is ∙ c.requires.2)).1)
    (kept_park (seen i.rows.entries) _ i.made i.soonest c.min-self-inside.result c.args.number c.requires.1 c.requires.0 c.args.session c.self.invariant (ap (λ r. map.get r.rows c.args.number) c.self.view_is ∙ c.requires.2) c.requires.3 c.requires.4 (omega arith) (λ now over. let due = c.over_from.ensures now over in omega arith))

pub returns : goal.returns
returns g c = λ row has.
    let is = c.exchange.ensures row (ap (λ r. map.get r.rows c.args.number) c.self.view_is ∙ has) in
    ap (λ rows. registered rows c.self.inside.made) is.1 ∙ ap (λ r. moved r c.args.number (with_holder row (Parked c.args.session))) c.self.view_is
