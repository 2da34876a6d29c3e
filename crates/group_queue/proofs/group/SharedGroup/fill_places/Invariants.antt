-- So many places were made.
use Rattle.std.proofs.Common.{◌≡◌, ◌≤◌, ◌+◌, vec_len, vec_capacity}
use Rattle.group_queue.specs.Places.{AreNewPlaces}
use Rattle.shared_ledger.specs.Givers.{new_giver}
use Rattle.group_queue.specs.Openings.{AreLeftOf}
use Rattle.group_queue.proofs.group.SharedGroup.fill_places.Given as goal

abbrev pub invariant-loop-number : goal.invariant-loop-number
invariant-loop-number g l = record {
  left : AreLeftOf l.self l.number l.left;
  last : l.last + 1 ≡ l.self.shape.places;
  few : l.self.shape.places ≤ 32;
  places : AreNewPlaces l.self l.number l.places.items;
  length : vec_len l.places ≡ l.number;
  giver : l.giver ≡ new_giver l.self.ledger l.giver.parts;
  parts : l.giver.parts + l.number ≡ 64;
  room : l.self.shape.places ≤ vec_capacity l.places;
}
