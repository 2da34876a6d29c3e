use Rattle.std.proofs.Common.{sym, ap, ◌∙◌, subst}
use Rattle.std.specs.FinMap as map
use Rattle.session_desk.specs.declared.row.Holder.TheVariants.{Lent}
use Rattle.session_desk.specs.Rows.{with_holder}
use Rattle.session_desk.specs.Books.{after_lend}
use Rattle.session_desk.specs.Layout.{AreFew}
use Rattle.session_desk.proofs.Booked.{booked, few_moved}
use Rattle.session_desk.proofs.desk.Desk.resume.Goals as goal

pub invariant_of-self : goal.invariant_of-self
invariant_of-self g c =
    let i = c.self.inside in
    let has = ap (λ b. map.get b.rows c.args.number) c.self.view_is ∙ c.requires.2 in
    subst (λ r. AreFew r.rows i.assigned) (sym (c.lend.ensures c.requires.0 has).1) (few_moved i.table.rows i.assigned c.args.number c.requires.0 (with_holder c.requires.0 (Lent c.args.connection)) c.self.invariant has)

pub returns : goal.returns
returns g c = λ row has.
    let i = c.self.inside in
    let e = c.lend.ensures row (ap (λ b. map.get b.rows c.args.number) c.self.view_is ∙ has) in (
      e.0,
      (λ j. booked (e.1 j) i.assigned (c.note.ensures j) (c.note-2.ensures j) i.free) ∙ ap (λ b. after_lend b c.args.number row c.args.connection) c.self.view_is,
    )
