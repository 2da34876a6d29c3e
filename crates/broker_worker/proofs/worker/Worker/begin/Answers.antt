-- The handle is unused.
use Rattle.std.proofs.Common.{sym, subst}
use Rattle.shared_supply.specs.Workers.{Worker}
use Rattle.worker_connections.specs.Handles.{IsUnused}
use Rattle.broker_worker.proofs.worker.Worker.begin.Goals as goal

pub new-connections-requires-clause-unused : goal.new-connections-requires-clause-unused
new-connections-requires-clause-unused g c = subst (λ (worker : Worker). IsUnused worker.ports worker.desk) (sym c.new-supply.ensures) c.requires.unused
