-- Nobody is there to be let go of.
use Rattle.std.proofs.Common.{ap, ◌∙◌}
use Rattle.worker_connections.specs.Cells.{occupied}
use Rattle.worker_connections.proofs.table.ServiceTable.abandon.Goals as goal

pub returns : goal.returns
returns g c = record { free = λ none. c.abandon_each.ensures (ap occupied c.self.view_is ∙ none) }
