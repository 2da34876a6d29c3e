-- The ports so far are counted.
use Rattle.std.proofs.Common.{◌≡◌, ◌≤◌, ◌*◌, length, take}
use Rattle.std.specs.Prelude.{sum_by}
use Rattle.group_queue.specs.Ports.{PortState}
use Rattle.group_queue.proofs.reserving.accepted_in_all.Given as goal

abbrev pub invariant-loop-port : goal.invariant-loop-port
invariant-loop-port g l = (l.total ≡ sum_by (λ (p : PortState). length p.sent) (take l.port-index l.ports)) × (l.total ≤ 18446744073709551615 * l.port-index)
