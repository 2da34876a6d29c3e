use Rattle.std.proofs.Common.{◌≡◌, length}
use Rattle.local_broker.specs.Broker.{AreNewGroups}
use Rattle.local_broker.proofs.opening.open_groups.Given as goal

abbrev pub invariant-slots : goal.invariant-slots
invariant-slots l = record { many : length l.groups.items ≡ l.slot; fresh : AreNewGroups l.capacity l.groups.items }
