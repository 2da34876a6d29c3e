-- The channel is the same.
use Rattle.std.proofs.Common.{◌≡◌}
use Rattle.worker_connections.specs.Serving.{StaysOf}
use Rattle.broker_worker.proofs.worker.Worker.answer.Given as goal

abbrev pub invariant-invited : goal.invariant-invited
invariant-invited g l = record {
  same : StaysOf l.fn.self.connections l.self.connections;
  begun : l.self.connections.sweeps.begun ≡ l.fn.self.connections.sweeps.begun;
}
