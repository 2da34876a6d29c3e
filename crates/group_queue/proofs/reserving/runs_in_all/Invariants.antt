-- The runs of the places so far are counted.
use Rattle.std.proofs.Common.{◌≤◌, length, take}
use Rattle.std.specs.Prelude.{sum_by}
use Rattle.group_jobs.specs.declared.fate.Fate.{Fate}
use Rattle.group_jobs.specs.Settled.{runs_of}
use Rattle.group_queue.specs.Places.{PlaceState}
use Rattle.group_queue.specs.Known.{runs_kept}
use Rattle.group_queue.proofs.reserving.runs_in_all.Given as goal

abbrev pub invariant-loop-place : goal.invariant-loop-place
invariant-loop-place g l = record {
  enough : (fate : Fate) → sum_by (λ (p : PlaceState). length (runs_of fate p.docket.settled)) (take l.place-index l.places) ≤ l.total;
  no_more : l.total ≤ sum_by runs_kept (take l.place-index l.places);
}
