use Rattle.std.proofs.Common.{◌≡◌, ◌≤◌, None, replicate, vec_capacity}
use Rattle.session_desk.proofs.places.FreePlaces.new.Given as goal

abbrev pub invariant-cells : goal.invariant-cells
invariant-cells g l = record {
  empty : l.cells.items ≡ replicate l.counter None;
  room : 256 ≤ vec_capacity l.cells;
}
