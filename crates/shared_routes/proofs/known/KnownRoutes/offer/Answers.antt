-- What stands in the next cell.
use Rattle.std.proofs.Common.{◌++◌, ◌∷◌, [], length, map, set, ap, subst, arith}
use Rattle.std.proofs.lemmas.List.{length-map, length-set}
use Rattle.shared_routes.specs.Cells.{CellState, known_of}
use Rattle.shared_routes.specs.Known.{KnownState, PublishesTo}
use Rattle.shared_routes.proofs.Told.{first_first}
use Rattle.shared_routes.proofs.Learning.{state_of, told_kept, is_told_next}
use Rattle.shared_routes.proofs.known.KnownRoutes.offer.Goals as goal

pub invariant_of-self : goal.invariant_of-self
invariant_of-self c = (
  first_first (map (λ share. share.now) c.self.inside.seen.items) (known_of c.self.inside.cells.items) (known_of (set c.self.inside.cells.items c.len-slot.result c.write.new.self)) c.self.invariant.0
      (told_kept c.self.inside.cells.items c.len-slot.result c.index_mut.result.now c.write.new.self c.write.ensures.0 c.index_mut.ensures.value
      (ap (λ (cell : CellState). cell.share) c.write.ensures.1) c.write.ensures.2),
  omega (arith, c.self.invariant.1, length-set c.self.inside.cells.items c.len-slot.result c.write.new.self),
  c.self.invariant.2,
  c.self.invariant.3,
)

pub returns : goal.returns
returns c = (
  c.write.ensures.0,
  subst (λ (old : KnownState). PublishesTo old (old.shares ++ c.write.ensures.0 ∷ [])
      (state_of c.self.inside.new_shares (set c.self.inside.cells.items c.len-slot.result c.write.new.self) (map (λ share. share.now) c.self.inside.seen.items))) c.self.view_is
      (is_told_next c.self.inside.new_shares c.self.inside.cells.items (map (λ share. share.now) c.self.inside.seen.items) (map (λ share. share.now) c.self.inside.seen.items)
      c.len-slot.result c.index_mut.result.now c.write.new.self c.write.ensures.0
      (omega (arith, c.len-slot.ensures, length-map c.self.inside.seen.items (λ share. share.now)))
      (omega (arith, c.len-slot.ensures, length-map c.self.inside.seen.items (λ share. share.now), c.requires.room, ap (λ (known : KnownState). length known.shares) c.self.view_is, c.self.invariant.1))
      c.index_mut.ensures.value (ap (λ (cell : CellState). cell.name) c.write.ensures.1) (ap (λ (cell : CellState). cell.share) c.write.ensures.1)
      c.write.ensures.2 c.self.invariant.0),
  c.write.ensures.3,
)
