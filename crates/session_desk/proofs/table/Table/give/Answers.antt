use Rattle.std.proofs.Common.{sym, ap, ◌∙◌, subst}
use Rattle.std.specs.FinMap as map
use Rattle.session_desk.specs.Rows.{away, moved}
use Rattle.session_desk.specs.Layout.{AreKept, number_at, seen}
use Rattle.session_desk.proofs.Kept.{registered, kept_give}
use Rattle.session_desk.proofs.table.Table.give.Goals as goal

pub into_kept-requires : goal.into_kept-requires
into_kept-requires g c = (c.requires.1, (c.dismiss.ensures.rows c.requires.0 (ap (λ r. map.get r.rows c.args.number) c.self.view_is ∙ c.requires.2)).0 ∙ c.requires.3)

pub invariant_of-self : goal.invariant_of-self
invariant_of-self g c =
    let i = c.self.inside in
    subst (λ rows. AreKept rows (number_at i.living.entries) i.made i.soonest) (sym (c.dismiss.ensures.rows c.requires.0 (ap (λ r. map.get r.rows c.args.number) c.self.view_is ∙ c.requires.2)).1)
    (kept_give (seen i.rows.entries) _ i.made i.soonest c.args.number c.requires.0 c.requires.1 c.self.invariant (ap (λ r. map.get r.rows c.args.number) c.self.view_is ∙ c.requires.2) c.requires.3)

pub returns : goal.returns
returns g c = λ row has.
    let is = c.dismiss.ensures.rows row (ap (λ r. map.get r.rows c.args.number) c.self.view_is ∙ has) in
    (sym is.0 ∙ c.into_kept.ensures, ap (λ rows. registered rows c.self.inside.made) is.1 ∙ ap (λ r. moved r c.args.number (away row.client)) c.self.view_is)
