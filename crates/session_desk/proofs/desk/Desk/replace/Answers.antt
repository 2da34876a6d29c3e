use Rattle.std.proofs.Common.{sym, ap, ◌∙◌, subst}
use Rattle.std.specs.FinMap as map
use Rattle.session_desk.specs.Rows.{with_wait}
use Rattle.session_desk.specs.Layout.{AreFew}
use Rattle.session_desk.proofs.Booked.{few_moved}
use Rattle.session_desk.proofs.desk.Desk.replace.Goals as goal

pub invariant_of-self : goal.invariant_of-self
invariant_of-self g c =
    let i = c.self.inside in
    let has = ap (λ b. map.get b.rows c.args.number) c.self.view_is ∙ c.requires.1 in
    subst (λ r. AreFew r.rows i.assigned) (sym (c.claim.ensures c.requires.0 has)) (few_moved i.table.rows i.assigned c.args.number c.requires.0 (with_wait c.requires.0 c.args.connection) c.self.invariant has)
