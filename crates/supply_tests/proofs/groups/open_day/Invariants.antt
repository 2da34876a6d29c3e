-- The broker is the one that was opened.
use Rattle.broker_groups.specs.Openings.{named_by}
use Rattle.supply_tests.proofs.groups.open_day.Given as goal

abbrev pub ghosts-day : goal.ghosts-day
ghosts-day g a = record { gate = a.gate.now; group = named_by a.opened.groups.items }
