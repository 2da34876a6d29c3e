-- The connections are the same.
use Rattle.std.proofs.Common.{◌≡◌}
use Rattle.broker_worker.proofs.worker.Worker.mark_ready.Given as goal

abbrev pub invariant-ready : goal.invariant-ready
invariant-ready g l = record {
  connections : l.self-inside.connections ≡ l.fn.self.connections;
  bells : l.self-inside.own_bells ≡ l.fn.self.bells;
}
