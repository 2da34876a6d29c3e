use Rattle.std.proofs.Common.{ap, sym, ◌∙◌, subst}
use Rattle.std.specs.FinMap as map
use Rattle.session_desk.specs.Places.{cell_at}
use Rattle.session_desk.specs.Keeping.{freed}
use Rattle.session_desk.specs.Books.{after_bury}
use Rattle.session_desk.specs.Layout.{AreFew}
use Rattle.session_desk.proofs.Booked.{booked, few_removed}
use Rattle.session_desk.proofs.desk.Desk.bury.Goals as goal

pub invariant_of-self : goal.invariant_of-self
invariant_of-self g c =
    let i = c.self.inside in
    let can = c.can_bury.ensures.0 c.if-not-can_bury.false in
    let has = ap (λ b. map.get b.rows c.number.result) c.self.view_is ∙ ap (map.get c.args.self.now.rows) c.number.ensures ∙ can.gone.is_row.has in
    subst (λ r. AreFew r.rows i.assigned) (sym c.bury.ensures) (few_removed i.table.rows i.assigned c.number.result can.gone.row c.self.invariant has)

pub returns : goal.returns
returns g c =
    let i = c.self.inside in
    let cell = λ (place : g.row.P.Denot). cell_at (g.P.Place.slot_of place) (g.P.Place.number_of place) in (
      c.can_bury.ensures.0 c.if-not-can_bury.false,
      (λ j. booked (c.bury.ensures j) i.assigned i.waits.items i.kicked.items (c.take_back.ensures j))
          ∙ (λ j. after_bury (c.self.view_is j) (c.number.ensures j) (freed cell (c.self.view_is j).free c.args.session.membership)),
    )
