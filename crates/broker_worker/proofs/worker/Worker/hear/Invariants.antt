-- The bells of the groups so far were heard.
use Rattle.std.proofs.Common.{◌≡◌, Bool, List, length}
use Rattle.worker_connections.specs.Serving.{wakes_of, with_wakes}
use Rattle.broker_worker.specs.Resting.{CountsCalls}
use Rattle.broker_worker.proofs.worker.Worker.hear.Given as goal

abbrev pub invariant-slots : goal.invariant-slots
invariant-slots g l = record {
  heard : List Bool;
  all : length heard ≡ l.slot;
  counted : CountsCalls 0 heard l.fn.self.bells.listenings (wakes_of l.fn.self.connections) l.self-inside.own_bells.listenings (wakes_of l.self-inside.connections);
  connections : l.self-inside.connections ≡ with_wakes l.fn.self.connections (wakes_of l.self-inside.connections);
  ringings : l.self-inside.own_bells.ringings ≡ l.fn.self.bells.ringings;
}
