-- Each worker so far has its place.
use Rattle.std.proofs.Common.{◌≡◌, length}
use Rattle.metrics.proofs.counts.shared_counts.Given as goal

abbrev pub invariant-loop-worker : goal.invariant-loop-worker
invariant-loop-worker l = length l.all.items ≡ l.worker
