-- One port more is there.
use Rattle.group_queue.specs.Ports.{PortState}
use Rattle.group_queue.proofs.Checks.{has_more, present}
use Rattle.group_queue.proofs.checking.lacking_port.Goals as goal

pub loop-number-preserved : goal.loop-number-preserved
loop-number-preserved g c = has_more _ _ c.loop-number.invariant (let there = c.in-Some.ensures in present (λ (p : PortState). p.number) _ there.0 _ there.1 there.2)
