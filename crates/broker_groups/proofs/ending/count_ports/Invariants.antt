-- So many ports were counted.
use Rattle.std.proofs.Common.{◌≡◌, length, take}
use Rattle.broker_groups.specs.Endings.{joined}
use Rattle.broker_groups.proofs.ending.count_ports.Given as goal

abbrev pub invariant-loop-ports : goal.invariant-loop-ports
invariant-loop-ports g l = l.count ≡ length (joined (take l.ports-index l.all))
