-- Rounds were made.
use Rattle.worker_connections.specs.Serving.{Rounds}
use Rattle.broker_worker.proofs.worker.Worker.hand_out_of.Given as goal

abbrev pub invariant-members : goal.invariant-members
invariant-members g l = Rounds l.fn.self.connections l.self.connections
