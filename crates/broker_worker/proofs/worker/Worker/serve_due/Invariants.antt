-- Rounds were made, with all of the cells so far where a sweep has begun.
use Rattle.std.proofs.Common.{◌≡◌, true, false, length}
use Rattle.worker_connections.specs.Serving.{Rounds}
use Rattle.worker_connections.specs.Sweeping.{HasGone, IsInTime}
use Rattle.broker_worker.proofs.worker.Worker.serve_due.Given as goal

abbrev pub invariant-cells : goal.invariant-cells
invariant-cells g l = record {
  goes : Rounds l.fn.self.connections l.self.connections;
  late : l.fn.all ≡ true → HasGone l.cell (length l.fn.self.connections.cells) l.self.connections.sweeps;
  in_time : l.fn.all ≡ false → IsInTime l.self.connections.sweeps;
}
