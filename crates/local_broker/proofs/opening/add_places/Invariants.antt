use Rattle.local_broker.proofs.Opened.{IsFurnished}
use Rattle.local_broker.proofs.opening.add_places.Given as goal

abbrev pub invariant-cells : goal.invariant-cells
invariant-cells l = IsFurnished l.desk l.cell
