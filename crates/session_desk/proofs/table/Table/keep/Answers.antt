use Rattle.std.proofs.Common.{sym, ap, ◌∙◌, subst}
use Rattle.std.specs.FinMap as map
use Rattle.session_desk.specs.declared.row.Holder.TheVariants.{Kept}
use Rattle.session_desk.specs.Rows.{moved, with_holder}
use Rattle.session_desk.specs.Layout.{AreKept, number_at, seen}
use Rattle.session_desk.proofs.Kept.{registered, kept_keep}
use Rattle.session_desk.proofs.table.Table.keep.Goals as goal

pub end_away-requires : goal.end_away-requires
end_away-requires g c = (c.exchange.ensures c.requires.0 (ap (λ r. map.get r.rows c.args.number) c.self.view_is ∙ c.requires.1)).0 ∙ c.requires.2

pub invariant_of-self : goal.invariant_of-self
invariant_of-self g c =
    let i = c.self.inside in
    subst (λ rows. AreKept rows (number_at i.living.entries) i.made 0) (sym (c.exchange.ensures c.requires.0 (ap (λ r. map.get r.rows c.args.number) c.self.view_is ∙ c.requires.1)).1)
    (kept_keep (seen i.rows.entries) _ i.made i.soonest c.args.number c.requires.0 c.args.session c.self.invariant (ap (λ r. map.get r.rows c.args.number) c.self.view_is ∙ c.requires.1) c.requires.2 c.requires.3)

pub returns : goal.returns
returns g c = λ row has.
    let is = c.exchange.ensures row (ap (λ r. map.get r.rows c.args.number) c.self.view_is ∙ has) in
    ap (λ rows. registered rows c.self.inside.made) is.1 ∙ ap (λ r. moved r c.args.number (with_holder row (Kept c.args.session))) c.self.view_is
