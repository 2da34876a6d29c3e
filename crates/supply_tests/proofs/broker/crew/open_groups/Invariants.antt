-- The broker is the one that was opened.
use Rattle.broker_groups.specs.Openings.{named_by}
use Rattle.supply_tests.proofs.broker.crew.open_groups.Given as goal

abbrev pub ghosts-live : goal.ghosts-live
ghosts-live g a = record { gate = a.gate.now; group = named_by a.opened.groups.items }
