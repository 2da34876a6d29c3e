use Rattle.std.proofs.Common.{sym, ap, ◌∙◌, subst}
use Rattle.std.specs.FinMap as map
use Rattle.session_desk.specs.Rows.{is_living, away, moved}
use Rattle.session_desk.specs.Layout.{AreKept, number_at, seen}
use Rattle.session_desk.proofs.Kept.{registered, kept_dismiss}
use Rattle.session_desk.proofs.table.Table.end_parked.Goals as goal

pub into_parked-requires : goal.into_parked-requires
into_parked-requires g c = (c.requires.1, (c.dismiss_living.ensures.rows c.requires.0 (ap (λ r. map.get r.rows c.args.number) c.self.view_is ∙ c.requires.2)).0 ∙ c.requires.3)

pub invariant_of-self : goal.invariant_of-self
invariant_of-self g c =
    let i = c.self.inside in
    let has = (ap (λ r. map.get r.rows c.args.number) c.self.view_is ∙ c.requires.2) in
    subst (λ rows. AreKept rows (number_at c.dismiss_living.new.living.entries) i.made i.soonest) (sym (c.dismiss_living.ensures.rows c.requires.0 has).1)
    (kept_dismiss (seen i.rows.entries) _ _ i.made i.soonest c.args.number c.requires.0 c.self.invariant has (ap is_living c.requires.3) (c.dismiss_living.ensures.living c.requires.0 has))

pub returns : goal.returns
returns g c = λ row has.
    let is = c.dismiss_living.ensures.rows row (ap (λ r. map.get r.rows c.args.number) c.self.view_is ∙ has) in
    (sym is.0 ∙ c.into_parked.ensures, ap (λ rows. registered rows c.self.inside.made) is.1 ∙ ap (λ r. moved r c.args.number (away row.client)) c.self.view_is)
