use Rattle.std.proofs.Common.{◌≡◌, ◌+◌, ◌≤◌, length, sum_by, vec_len, vec_capacity}
use Rattle.session_desk.specs.Everything.{free_in}
use Rattle.session_desk.proofs.drained.drain_cells.Given as goal

abbrev pub invariant-cells : goal.invariant-cells
invariant-cells g l = record {
  places : (measure : _) → sum_by measure l.places.items + sum_by (λ cell. sum_by measure (free_in cell)) l.cells.items
      ≡ sum_by measure l.fn.places.items + sum_by (λ cell. sum_by measure (free_in cell)) l.fn.cells.items;
  room : length l.places.items + length l.cells.items ≤ vec_capacity l.places;
}

abbrev pub decreases-cells : goal.decreases-cells
decreases-cells g l = vec_len l.cells
