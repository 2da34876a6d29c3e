-- The room of each fate.
use Rattle.std.proofs.Common.{arith, ap}
use Rattle.group_jobs.specs.declared.fate.Fate.TheVariants.{Acknowledged, Refused, Discarded}
use Rattle.group_jobs.specs.Settled.{least_spare}
use Rattle.group_jobs.proofs.docket.Docket.equal_room.Goals as goal

pub returns-clause-room : goal.returns-clause-room
returns-clause-room c = omega (arith, ap (λ k. least_spare k.settled) c.self.view_is, c.spare.ensures.value, c.in_ok-reserve.ensures.ok Acknowledged, c.in_ok-reserve.ensures.ok Refused, c.in_ok-reserve.ensures.ok Discarded)
