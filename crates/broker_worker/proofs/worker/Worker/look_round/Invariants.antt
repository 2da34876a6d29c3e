-- Of the connections and the bells nothing has changed.
use Rattle.std.proofs.Common.{◌≡◌}
use Rattle.broker_worker.proofs.worker.Worker.look_round.Given as goal

abbrev pub invariant-loop-worker : goal.invariant-loop-worker
invariant-loop-worker g l = record {
  same : l.self-inside.connections ≡ l.fn.self.connections;
  bells : l.self-inside.own_bells ≡ l.fn.self.bells;
}
