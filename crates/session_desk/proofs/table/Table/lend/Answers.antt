use Rattle.std.proofs.Common.{sym, ap, ◌∙◌, subst}
use Rattle.std.specs.FinMap as map
use Rattle.session_desk.specs.declared.row.Holder.TheVariants.{Lent}
use Rattle.session_desk.specs.Rows.{moved, with_holder}
use Rattle.session_desk.specs.Layout.{AreKept, number_at, seen}
use Rattle.session_desk.proofs.Kept.{registered, kept_lend}
use Rattle.session_desk.proofs.table.Table.lend.Goals as goal

pub into_parked-requires : goal.into_parked-requires
into_parked-requires g c = (c.requires.1, (c.exchange.ensures c.requires.0 (ap (λ r. map.get r.rows c.args.number) c.self.view_is ∙ c.requires.2)).0 ∙ c.requires.3)

pub invariant_of-self : goal.invariant_of-self
invariant_of-self g c =
    let i = c.self.inside in
    subst (λ rows. AreKept rows (number_at i.living.entries) i.made i.soonest) (sym (c.exchange.ensures c.requires.0 (ap (λ r. map.get r.rows c.args.number) c.self.view_is ∙ c.requires.2)).1)
    (kept_lend (seen i.rows.entries) _ i.made i.soonest c.args.number c.args.connection c.requires.0 c.requires.1 c.self.invariant (ap (λ r. map.get r.rows c.args.number) c.self.view_is ∙ c.requires.2) c.requires.3)

pub returns : goal.returns
returns g c = λ row has.
    let is = c.exchange.ensures row (ap (λ r. map.get r.rows c.args.number) c.self.view_is ∙ has) in
    (sym is.0 ∙ c.into_parked.ensures, ap (λ rows. registered rows c.self.inside.made) is.1 ∙ ap (λ r. moved r c.args.number (with_holder row (Lent c.args.connection))) c.self.view_is)
