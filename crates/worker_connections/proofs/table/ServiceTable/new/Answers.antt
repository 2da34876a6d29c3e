-- No connection is in free cells.
use Rattle.worker_connections.proofs.Occupied.{replicate-occupied}
use Rattle.worker_connections.proofs.table.ServiceTable.new.Goals as goal

pub returns-clause-count : goal.returns-clause-count
returns-clause-count g c = replicate-occupied c.from.result _ c.in_ok-cells.ensures
