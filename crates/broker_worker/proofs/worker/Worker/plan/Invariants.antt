-- Of the connections and the bells nothing has changed.
use Rattle.std.proofs.Common.{◌≡◌}
use Rattle.broker_worker.proofs.worker.Worker.plan.Given as goal

abbrev pub invariant-slots : goal.invariant-slots
invariant-slots g l = record {
  same : l.self.connections ≡ l.fn.self.connections;
  bells : l.self.bells ≡ l.fn.self.bells;
}
