-- One port more is counted.
use Rattle.std.proofs.Common.{◌∙◌, arith}
use Rattle.group_queue.proofs.Checks.{counts_more}
use Rattle.group_queue.proofs.reserving.counts_of.Goals as goal

pub loop-number-preserved : goal.loop-number-preserved
loop-number-preserved g c = record {
  counts = rw c.push_reserved.ensures.items (counts_more _ _ _ _ c.loop-number.invariant.counts c.in-Some.ensures);
  so_many = omega (arith, c.push_reserved.ensures.len, c.loop-number.invariant.so_many);
  room = c.push_reserved.ensures.capacity ∙ c.loop-number.invariant.room;
}
