use Rattle.std.proofs.Common.{sym, ap, ◌∙◌, subst}
use Rattle.std.specs.FinMap as map
use Rattle.session_desk.specs.Layout.{AreKept, number_at, seen}
use Rattle.session_desk.proofs.Kept.{kept_claim}
use Rattle.session_desk.proofs.table.Table.claim.Goals as goal

pub invariant_of-self : goal.invariant_of-self
invariant_of-self g c =
    let i = c.self.inside in
    subst (λ rows. AreKept rows (number_at i.living.entries) i.made i.soonest) (sym (c.claim.ensures c.requires.0 (ap (λ r. map.get r.rows c.args.number) c.self.view_is ∙ c.requires.1)))
    (kept_claim (seen i.rows.entries) _ i.made i.soonest c.args.number c.args.connection c.requires.0 c.self.invariant (ap (λ r. map.get r.rows c.args.number) c.self.view_is ∙ c.requires.1))
