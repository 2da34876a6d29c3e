-- One worker less is left.
use Rattle.std.proofs.Common.{length, ap, arith}
use Rattle.std.proofs.Math.ListN.{length-append}
use Rattle.worker_pool.proofs.pool.release.Goals as goal

pub workers-preserved : goal.workers-preserved
workers-preserved g c =
    let left = simp length-append at (ap length c.in-Some.ensures.items) in
    let pushed = simp length-append at (ap length c.push_reserved.ensures.items) in
    record {
      count = omega (arith, left, pushed, c.workers.invariant.count);
      room = omega (arith, left, pushed, c.workers.invariant.room, c.push_reserved.ensures.capacity);
    }
