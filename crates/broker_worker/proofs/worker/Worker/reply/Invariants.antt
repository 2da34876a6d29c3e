-- Rounds were made.
use Rattle.worker_connections.specs.Serving.{Rounds}
use Rattle.broker_worker.proofs.worker.Worker.reply.Given as goal

abbrev pub invariant-cells : goal.invariant-cells
invariant-cells g l = Rounds l.fn.self.connections l.self.connections
