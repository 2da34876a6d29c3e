-- Nothing was sent so far, and the same connection is to be sent.
use Rattle.std.proofs.Common.{◌≡◌}
use Rattle.worker_pool.proofs.accepting.deliver.Given as goal

abbrev pub invariant-tries : goal.invariant-tries
invariant-tries g l = (l.sender ≡ l.fn.sender) × (l.arrived ≡ l.fn.arrived)
