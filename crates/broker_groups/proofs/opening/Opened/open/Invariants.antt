-- So many groups were opened, and there is room for the others.
use Rattle.std.proofs.Common.{◌≤◌, vec_capacity}
use Rattle.broker_groups.specs.Openings.{AreOpened}
use Rattle.broker_groups.proofs.opening.Opened.open.Given as goal

abbrev pub invariant-slots : goal.invariant-slots
invariant-slots g l = record {
  opened : AreOpened l.gate l.capacity l.workers l.slot l.groups.items l.ports.items l.places.items;
  groups : 8 ≤ vec_capacity l.groups;
  ports : 8 ≤ vec_capacity l.ports;
  places : 8 ≤ vec_capacity l.places;
}
