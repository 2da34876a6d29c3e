-- The dockets so far were put in.
use Rattle.std.proofs.Common.{◌≡◌, ◌≤◌, ◌+◌, length}
use Rattle.std.specs.Prelude.{sum_by}
use Rattle.std.specs.Vec.Iter.{into_iter_items}
use Rattle.dispatch_core.specs.declared.event.Job.{Job}
use Rattle.dispatch_core.specs.JobRuns.{count_of}
use Rattle.group_jobs.specs.declared.fate.Fate.{Fate}
use Rattle.group_jobs.specs.Settled.{settled_as, runs_of, spare_of}
use Rattle.group_jobs.specs.Dockets.{Kept}
use Rattle.group_queue.proofs.finish.merge_all.Given as goal

abbrev pub invariant-loop-docket : goal.invariant-loop-docket
invariant-loop-docket l = record {
  jobs : (fate : Fate) (job : Job) → count_of job (settled_as fate l.settled) + sum_by (λ (d : Kept). count_of job (settled_as fate d.settled)) (into_iter_items l.docket-iterator)
      ≡ count_of job (settled_as fate l.initial.settled) + sum_by (λ (d : Kept). count_of job (settled_as fate d.settled)) l.fn.dockets.items;
  room : (fate : Fate) → sum_by (λ (d : Kept). length (runs_of fate d.settled)) (into_iter_items l.docket-iterator) ≤ spare_of fate l.settled;
}
