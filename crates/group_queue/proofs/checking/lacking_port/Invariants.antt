-- The ports so far are there.
use Rattle.group_queue.specs.Ends.{port_numbers, HasAll}
use Rattle.group_queue.proofs.checking.lacking_port.Given as goal

abbrev pub invariant-loop-number : goal.invariant-loop-number
invariant-loop-number g l = HasAll l.number (port_numbers l.ports)
