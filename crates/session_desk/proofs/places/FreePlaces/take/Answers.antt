use Rattle.std.proofs.Common.{◌≡◌, ℕ, ◌<◌, Some, None, slice_set, slice_get, sym, subst, ◌∙◌}
use Rattle.std.proofs.lemmas.List.{length-set}
use Rattle.std.proofs.lemmas.Option.{get_or_from_slice_get}
use Rattle.session_desk.specs.Places.{IsOwnCell, TakesPlace, cell_at}
use Rattle.session_desk.proofs.Cells.{also_held}
use Rattle.session_desk.proofs.places.FreePlaces.take.Goals as goal

pub invariant_of-self : goal.invariant_of-self
invariant_of-self g c =
    let i = c.self.inside in
    let slot_of = g.P.Place.slot_of in
    let number_of = g.P.Place.number_of in
    let at : c.cell_of-cell.result ≡ cell_at (slot_of c.args.place) (number_of c.args.place) = c.cell_of-cell.ensures ∙ (λ j. cell_at (c.slot.ensures.value j) (c.number.ensures.value j)) in
    let small = subst (λ (n : ℕ). n < 32) c.number.ensures.value c.number.ensures.small in
    let own : IsOwnCell slot_of number_of c.cell_of-cell.result c.args.place = record { at = at; small = small } in (
      length-set i.cells.items c.cell_of-cell.result c.replace.new.self ∙ c.self.invariant.0,
      subst (λ more. (cell : ℕ) (place : _) → slice_get (slice_set i.cells.items c.cell_of-cell.result more) cell ≡ Some (Some place) → IsOwnCell slot_of number_of cell place) (sym c.replace.ensures.after)
          (also_held (IsOwnCell slot_of number_of) i.cells.items c.cell_of-cell.result c.args.place c.self.invariant.1 own),
    )

pub returns : goal.returns
returns g c =
    let i = c.self.inside in
    let slot_of = g.P.Place.slot_of in
    let number_of = g.P.Place.number_of in
    let at : c.cell_of-cell.result ≡ cell_at (slot_of c.args.place) (number_of c.args.place) = c.cell_of-cell.ensures ∙ (λ j. cell_at (c.slot.ensures.value j) (c.number.ensures.value j)) in
    let empty = c.lacks.ensures.value.0 c.if-not-lacks.false in
    let found = c.replace.ensures.value ∙ c.index_mut.ensures.value
    ∙ get_or_from_slice_get i.cells.items c.cell_of-cell.result None c.index_mut.result.now ((λ j. slice_get (c.self.view_is j) (at j)) ∙ empty) in
    let after : slice_set i.cells.items c.cell_of-cell.result c.replace.new.self ≡ slice_set c.args.self.now (cell_at (slot_of c.args.place) (number_of c.args.place)) (Some c.args.place) =
    (λ j. slice_set (c.self.view_is j) (at j) (c.replace.ensures.after j)) in
    subst (λ answer. TakesPlace c.args.self.now (cell_at (slot_of c.args.place) (number_of c.args.place)) c.args.place answer (slice_set i.cells.items c.cell_of-cell.result c.replace.new.self)) (sym found) (empty, after)
