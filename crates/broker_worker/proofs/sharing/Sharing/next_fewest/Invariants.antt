-- The one that is found is one of those that a word has bits for.
use Rattle.std.proofs.Common.{◌<◌, IfSome}
use Rattle.broker_worker.proofs.sharing.Sharing.next_fewest.Given as goal

abbrev pub invariant-loop-worker : goal.invariant-loop-worker
invariant-loop-worker l = IfSome l.best (λ worker. worker < 64)
