-- None of them has it.
use Rattle.std.proofs.Common.{arith}
use Rattle.group_queue.specs.Ports.{PortState}
use Rattle.group_queue.proofs.Checks.{absent}
use Rattle.group_queue.proofs.checking.accepted_by.Goals as goal

pub returns : goal.returns
returns g c = absent (λ (p : PortState). p.number) _ _ (λ k d less. c.loop-port.invariant k d (omega (arith, less, c.loop-port-test.false)))
