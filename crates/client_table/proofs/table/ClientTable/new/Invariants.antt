-- So many cells are there.
use Rattle.std.proofs.Common.{◌≡◌, ◌≤◌, None, replicate, vec_capacity}
use Rattle.client_table.proofs.table.ClientTable.new.Given as goal

abbrev pub invariant-cells : goal.invariant-cells
invariant-cells g l = record {
  empty : l.cells.items ≡ replicate l.counter None;
  room : 64 ≤ vec_capacity l.cells;
}
