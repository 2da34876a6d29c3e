-- None of the ports so far has this number.
use Rattle.std.proofs.Common.{◌≢◌, ℕ, ◌<◌, get_or}
use Rattle.group_queue.specs.Ports.{PortState}
use Rattle.group_queue.proofs.checking.accepted_by.Given as goal

abbrev pub invariant-loop-port : goal.invariant-loop-port
invariant-loop-port g l = (k : ℕ) (d : PortState) → k < l.port-index → (get_or l.ports k d).number ≢ l.number
