-- What is left out is fewer jobs, of the same.
use Rattle.std.proofs.Common.{arith, ◌<◌, ap}
use Rattle.group_jobs.proofs.Taking.{length-taken, All-taken}
use Rattle.group_jobs.proofs.docket.Docket.give_back.Goals as goal

pub invariant_of-self : goal.invariant_of-self
invariant_of-self c = record {
  spare = omega (arith, length-taken _ _ _ c.take_off.ensures.taken, c.self.invariant.spare);
  small = All-taken _ _ _ c.take_off.ensures.taken (λ job. job.number < 18446744073709551615) c.self.invariant.small;
}

pub returns-clause-room : goal.returns-clause-room
returns-clause-room c = omega (arith, length-taken _ _ _ c.take_off.ensures.taken, c.take_off.ensures.capacity, c.self.invariant.spare, ap (λ k. k.room) c.self.view_is)
