-- A group has a place.
use Rattle.std.proofs.Common.{ap, arith}
use Rattle.group_queue.specs.Places.{PlaceState}
use Rattle.group_queue.specs.Ends.{place_numbers}
use Rattle.group_queue.proofs.Joined.{enough, length_map}
use Rattle.group_queue.proofs.group.SharedGroup.hold.Goals as goal

pub index_mut-place-requires : goal.index_mut-place-requires
index_mut-place-requires g c = omega (
  arith,
  enough _ (place_numbers c.args.places.now.items) c.requires.whole,
  length_map (λ (p : PlaceState). p.number) c.args.places.now.items,
  c.self.invariant,
  ap (λ s. s.shape.places) c.self.view_is,
)
