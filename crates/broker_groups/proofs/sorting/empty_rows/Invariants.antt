-- So many rows are there.
use Rattle.std.proofs.Common.{◌≡◌, ◌≤◌, length, vec_capacity, All}
use Rattle.broker_groups.specs.Sorting.{IsEmptyRow}
use Rattle.broker_groups.proofs.sorting.empty_rows.Given as goal

abbrev pub invariant-rows : goal.invariant-rows
invariant-rows g l = record {
  room : l.count ≤ vec_capacity l.rows;
  many : length l.rows.items ≡ l.counter;
  empty : All (IsEmptyRow l.room) l.rows.items;
}
