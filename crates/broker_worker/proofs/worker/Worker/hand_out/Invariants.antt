-- Rounds were made.
use Rattle.worker_connections.specs.Serving.{Rounds}
use Rattle.broker_worker.proofs.worker.Worker.hand_out.Given as goal

abbrev pub invariant-slots : goal.invariant-slots
invariant-slots g l = Rounds l.fn.self.connections l.self.connections
