-- The ports so far are counted, and there is room for the others.
use Rattle.std.proofs.Common.{◌≡◌, vec_len, vec_capacity}
use Rattle.group_queue.specs.Ends.{AreCounts}
use Rattle.group_queue.proofs.reserving.counts_of.Given as goal

abbrev pub invariant-loop-number : goal.invariant-loop-number
invariant-loop-number g l = record {
  counts : AreCounts l.number l.ports l.counts.items;
  so_many : vec_len l.counts ≡ l.number;
  room : vec_capacity l.counts ≡ l.count;
}
