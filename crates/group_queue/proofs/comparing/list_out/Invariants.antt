-- What the places so far have out is in the list.
use Rattle.std.proofs.Common.{◌≡◌, ◌<◌, All, take}
use Rattle.std.specs.Prelude.{sum_by}
use Rattle.dispatch_core.specs.declared.event.Job.{Job}
use Rattle.dispatch_core.specs.JobRuns.{jobs_of, count_of}
use Rattle.group_queue.specs.Places.{PlaceState}
use Rattle.group_queue.proofs.comparing.list_out.Given as goal

abbrev pub invariant-loop-place : goal.invariant-loop-place
invariant-loop-place g l = record {
  counts : (job : Job) → count_of job (jobs_of l.out.runs) ≡ sum_by (λ (place : PlaceState). count_of job place.docket.out) (take l.place-index l.places);
  small : All (λ (job : Job). job.number < 18446744073709551615) (jobs_of l.out.runs);
}
