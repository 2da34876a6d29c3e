-- What is left out is fewer jobs, of the same; so one run more leaves room for each.
use Rattle.std.proofs.Common.{arith, ◌<◌, ap}
use Rattle.group_jobs.proofs.Taking.{length-taken, All-taken, least_spare-settled}
use Rattle.group_jobs.proofs.docket.Docket.settle.Goals as goal

pub invariant_of-self : goal.invariant_of-self
invariant_of-self c = record {
  spare = omega (arith, length-taken _ _ _ c.take_off.ensures.taken, c.self.invariant.spare, least_spare-settled _ _ _ _ c.add.ensures.settled c.add.ensures.room);
  small = All-taken _ _ _ c.take_off.ensures.taken (λ job. job.number < 18446744073709551615) c.self.invariant.small;
}

pub returns-clause-room : goal.returns-clause-room
returns-clause-room c = omega (arith, length-taken _ _ _ c.take_off.ensures.taken, c.take_off.ensures.capacity, least_spare-settled _ _ _ _ c.add.ensures.settled c.add.ensures.room, ap (λ k. k.room) c.self.view_is)
