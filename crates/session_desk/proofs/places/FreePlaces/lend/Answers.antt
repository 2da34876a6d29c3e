use Rattle.std.proofs.Common.{◌≡◌, ℕ, Some, None, IfSome, slice_set, slice_get, refl, sym, ap, subst, ◌∙◌}
use Rattle.std.proofs.lemmas.List.{length-set}
use Rattle.std.proofs.lemmas.Option.{get_or_from_slice_get}
use Rattle.session_desk.specs.Places.{IsLeast, IsOfSlot, IsOwnCell, LendsPlace}
use Rattle.session_desk.proofs.Cells.{still_held, of_slot}
use Rattle.session_desk.proofs.places.FreePlaces.lend.Goals as goal

pub invariant_of-self : goal.invariant_of-self
invariant_of-self g c =
    let i = c.self.inside in
    let at = c.in_ok-cell.cell in (
      length-set i.cells.items at c.take.new.self ∙ c.self.invariant.0,
      subst (λ left. (cell : ℕ) (place : _) → slice_get (slice_set i.cells.items at left) cell ≡ Some (Some place) → IsOwnCell g.P.Place.slot_of g.P.Place.number_of cell place) (sym c.take.ensures.after)
          (still_held (IsOwnCell g.P.Place.slot_of g.P.Place.number_of) i.cells.items at c.self.invariant.1),
    )

pub returns-clause-lends : goal.returns-clause-lends
returns-clause-lends g c =
    let least = c.in_ok-cell.ensures in
    let found = c.take.ensures.value ∙ c.index_mut.ensures.value ∙ get_or_from_slice_get c.self.inside.cells.items c.in_ok-cell.cell (Some least.place) c.index_mut.result.now (ap (λ cells. slice_get cells c.in_ok-cell.cell) c.self.view_is ∙ least.is_free) in
    let after : slice_set c.self.inside.cells.items c.in_ok-cell.cell c.take.new.self ≡ slice_set c.args.self.now c.in_ok-cell.cell None = (λ i. slice_set (c.self.view_is i) c.in_ok-cell.cell (c.take.ensures.after i)) in
    subst (λ answer. LendsPlace c.args.self.now c.args.slot answer (slice_set c.self.inside.cells.items c.in_ok-cell.cell c.take.new.self)) (sym found) (c.in_ok-cell.cell, least, refl, after)

pub returns-clause-own : goal.returns-clause-own
returns-clause-own g c =
    let least : IsLeast c.self.inside.cells.items c.args.slot c.in_ok-cell.cell = subst (λ cells. IsLeast cells c.args.slot c.in_ok-cell.cell) (sym c.self.view_is) c.in_ok-cell.ensures in
    let found = c.take.ensures.value ∙ c.index_mut.ensures.value ∙ get_or_from_slice_get c.self.inside.cells.items c.in_ok-cell.cell (Some least.place) c.index_mut.result.now least.is_free in
    subst (λ answer. IfSome answer (IsOfSlot g.P.Place.slot_of g.P.Place.number_of c.args.slot)) (sym found)
    (of_slot g.P.Place.slot_of g.P.Place.number_of c.self.inside.cells.items c.args.slot c.in_ok-cell.cell c.self.invariant.1 least)
