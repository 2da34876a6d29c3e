use Rattle.std.proofs.Common.{◌≡◌, length}
use Rattle.bell.specs.Calls.{CallsDue, is_due}
use Rattle.bell.proofs.bell.Bell.call_idle.Given as goal

abbrev pub invariant-loop-worker : goal.invariant-loop-worker
invariant-loop-worker g l = record {
  bell : l.ringer.bell ≡ l.fn.ringer.bell;
  calls : CallsDue (is_due l.fn.found l.fn.first l.fn.named) l.worker l.fn.wanted l.woken l.fn.ringer.history l.ringer.history;
  all : l.worker-end ≡ length l.fn.wakers;
}
