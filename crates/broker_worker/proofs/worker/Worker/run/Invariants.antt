-- The channel is the same.
use Rattle.worker_connections.specs.Serving.{StaysOf}
use Rattle.broker_worker.proofs.worker.Worker.run.Given as goal

abbrev pub invariant-turns : goal.invariant-turns
invariant-turns g l = record { same : StaysOf l.fn.self.connections l.self.connections }
