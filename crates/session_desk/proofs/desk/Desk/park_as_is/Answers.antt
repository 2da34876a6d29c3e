use Rattle.std.proofs.Common.{sym, ap, ◌∙◌, subst}
use Rattle.std.specs.FinMap as map
use Rattle.session_desk.specs.declared.row.Holder.TheVariants.{Parked}
use Rattle.session_desk.specs.Rows.{with_holder}
use Rattle.session_desk.specs.Books.{after_park}
use Rattle.session_desk.specs.Layout.{AreFew}
use Rattle.session_desk.proofs.Booked.{booked, few_moved, lent_in}
use Rattle.session_desk.proofs.desk.Desk.park_as_is.Goals as goal

pub invariant_of-self : goal.invariant_of-self
invariant_of-self g c =
    let i = c.self.inside in
    let lent = c.is_lent.ensures.0 c.if-not-is_lent.false in
    let n = c.number.ensures in
    let e = c.park.ensures lent.row (ap (map.get i.table.rows) n ∙ lent.is_row.has) in
    subst (λ r. AreFew r.rows i.assigned) (sym e) (few_moved i.table.rows i.assigned c.number.result lent.row (with_holder lent.row (Parked c.args.session)) c.self.invariant (ap (map.get i.table.rows) n ∙ lent.is_row.has))

pub returns : goal.returns
returns g c =
    let i = c.self.inside in
    let lent = c.is_lent.ensures.0 c.if-not-is_lent.false in
    let n = c.number.ensures in
    let e = c.park.ensures lent.row (ap (map.get i.table.rows) n ∙ lent.is_row.has) in
    record { lent = lent_in i.table.rows c.args.self.now.rows c.args.session (ap (λ b. b.rows) c.self.view_is) lent; after = (λ j. booked (e j) i.assigned i.waits.items i.kicked.items i.free) ∙ (λ j. after_park (c.self.view_is j) (n j) lent.row c.args.session) }
