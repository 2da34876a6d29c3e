-- The cell that is told is the one in which the connection was opened.
use Rattle.worker_connections.proofs.Opened.{tells_cell}
use Rattle.worker_connections.proofs.admitting.take_in.Goals as goal

pub returns-in-Some-clause-cell : goal.returns-in-Some-clause-cell
returns-in-Some-clause-cell g c = tells_cell c.args.table.now _ _ _ _ _ c.in-Some.ensures.admits.2
