-- The jobs so far are counted.
use Rattle.std.proofs.Common.{◌≡◌, ◌≤◌, ◌+◌, length}
use Rattle.std.specs.VecDeque.Iter.{deque_iter_rest}
use Rattle.dispatch_core.specs.JobRuns.{count_of}
use Rattle.group_queue.proofs.checking.times_in.Given as goal

abbrev pub invariant-loop-other : goal.invariant-loop-other
invariant-loop-other l = record {
  counted : l.times + count_of l.job (deque_iter_rest l.other-iterator) ≡ count_of l.job l.jobs.items;
  few : l.times + length (deque_iter_rest l.other-iterator) ≤ length l.jobs.items;
}
