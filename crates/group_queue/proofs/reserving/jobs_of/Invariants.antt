-- The jobs of the envelopes so far, and room for the others.
use Rattle.std.proofs.Common.{◌≡◌, length, take, vec_len, vec_capacity}
use Rattle.std.specs.Prelude.{map}
use Rattle.group_jobs.specs.Stamps.{Held, job_of}
use Rattle.group_queue.proofs.reserving.jobs_of.Given as goal

abbrev pub invariant-loop-envelope : goal.invariant-loop-envelope
invariant-loop-envelope l = record {
  jobs : l.jobs.items ≡ map (λ (envelope : Held). job_of envelope.stamp) (take l.envelope-index l.held);
  so_many : vec_len l.jobs ≡ l.envelope-index;
  room : vec_capacity l.jobs ≡ length l.held;
}
