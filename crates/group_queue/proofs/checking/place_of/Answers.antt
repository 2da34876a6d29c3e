-- None of them has it.
use Rattle.std.proofs.Common.{arith}
use Rattle.group_queue.specs.Places.{PlaceState}
use Rattle.group_queue.proofs.Checks.{absent}
use Rattle.group_queue.proofs.checking.place_of.Goals as goal

pub returns : goal.returns
returns g c = absent (λ (p : PlaceState). p.number) _ _ (λ k d less. c.loop-at.invariant k d (omega (arith, less, c.loop-at-test.false)))
