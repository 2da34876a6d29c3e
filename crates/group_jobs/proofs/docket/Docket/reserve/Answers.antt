-- The room of each fate.
use Rattle.std.proofs.Common.{arith, ap}
use Rattle.group_jobs.specs.declared.fate.Fate.TheVariants.{Acknowledged, Refused, Discarded}
use Rattle.group_jobs.proofs.docket.Docket.reserve.Goals as goal

pub invariant_of-self-in_err-reserve-2 : goal.invariant_of-self-in_err-reserve-2
invariant_of-self-in_err-reserve-2 c = record { spare = omega (arith, c.reserve-2.ensures.spare Acknowledged, c.reserve-2.ensures.spare Refused, c.reserve-2.ensures.spare Discarded); small = rw c.reserve.ensures.items c.self.invariant.small }

pub invariant_of-self-2 : goal.invariant_of-self-2
invariant_of-self-2 c = record { spare = omega (arith, c.reserve-2.ensures.spare Acknowledged, c.reserve-2.ensures.spare Refused, c.reserve-2.ensures.spare Discarded); small = rw c.reserve.ensures.items c.self.invariant.small }

pub returns-clause-ok : goal.returns-clause-ok
returns-clause-ok c = omega (arith, c.in_ok-reserve.ensures.ok, c.len.ensures, c.in_ok-reserve-2.ensures.ok Acknowledged, c.in_ok-reserve-2.ensures.ok Refused, c.in_ok-reserve-2.ensures.ok Discarded)

pub returns-clause-room : goal.returns-clause-room
returns-clause-room c = omega (arith, c.reserve-2.ensures.spare Acknowledged, c.reserve-2.ensures.spare Refused, ap (λ k. k.room) c.self.view_is)
