use Rattle.std.proofs.Common.{sym, ap, ◌∙◌, subst}
use Rattle.std.specs.FinMap as map
use Rattle.session_desk.specs.declared.row.Holder.TheVariants.{Kept}
use Rattle.session_desk.specs.Rows.{with_holder}
use Rattle.session_desk.specs.Books.{after_keep}
use Rattle.session_desk.specs.Layout.{AreFew}
use Rattle.session_desk.proofs.Booked.{booked, few_moved, away_in}
use Rattle.session_desk.proofs.desk.Desk.keep.Goals as goal

pub invariant_of-self : goal.invariant_of-self
invariant_of-self g c =
    let i = c.self.inside in
    let gone = c.is_away.ensures.0 c.if-not-is_away.false in
    let n = c.number.ensures in
    let e = c.keep.ensures gone.row (ap (map.get i.table.rows) n ∙ gone.is_row.has) in
    subst (λ r. AreFew r.rows i.assigned) (sym e) (few_moved i.table.rows i.assigned c.number.result gone.row (with_holder gone.row (Kept c.args.session)) c.self.invariant (ap (map.get i.table.rows) n ∙ gone.is_row.has))

pub returns : goal.returns
returns g c =
    let i = c.self.inside in
    let gone = c.is_away.ensures.0 c.if-not-is_away.false in
    let n = c.number.ensures in
    let e = c.keep.ensures gone.row (ap (map.get i.table.rows) n ∙ gone.is_row.has) in
    record { gone = away_in i.table.rows c.args.self.now.rows c.args.session (ap (λ b. b.rows) c.self.view_is) gone; after = (λ j. booked (e j) i.assigned i.waits.items i.kicked.items i.free) ∙ (λ j. after_keep (c.self.view_is j) (n j) gone.row c.args.session) }
