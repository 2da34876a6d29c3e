use Rattle.std.proofs.Common.{sym, ap, ◌∙◌, subst}
use Rattle.std.specs.FinMap as map
use Rattle.session_desk.specs.Rows.{is_living}
use Rattle.session_desk.specs.Layout.{AreKept, number_at, seen}
use Rattle.session_desk.proofs.Kept.{kept_dismiss}
use Rattle.session_desk.proofs.table.Table.end_lent.Goals as goal

pub end_lent-requires : goal.end_lent-requires
end_lent-requires g c = (c.requires.1, (c.dismiss_living.ensures.rows c.requires.0 (ap (λ r. map.get r.rows c.args.number) c.self.view_is ∙ c.requires.2)).0 ∙ c.requires.3)

pub invariant_of-self : goal.invariant_of-self
invariant_of-self g c =
    let i = c.self.inside in
    let has = (ap (λ r. map.get r.rows c.args.number) c.self.view_is ∙ c.requires.2) in
    subst (λ rows. AreKept rows (number_at c.dismiss_living.new.living.entries) i.made i.soonest) (sym (c.dismiss_living.ensures.rows c.requires.0 has).1)
    (kept_dismiss (seen i.rows.entries) _ _ i.made i.soonest c.args.number c.requires.0 c.self.invariant has (ap is_living c.requires.3) (c.dismiss_living.ensures.living c.requires.0 has))
