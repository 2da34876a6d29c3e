-- All places were gone over.
use Rattle.std.proofs.Common.{◌≤◌, length, subst}
use Rattle.std.specs.Prelude.{sum_by}
use Rattle.std.proofs.lemmas.List.{take_all}
use Rattle.group_jobs.specs.Settled.{runs_of}
use Rattle.group_queue.specs.Places.{PlaceState}
use Rattle.group_queue.proofs.reserving.runs_in_all.Goals as goal

pub returns-clause-enough : goal.returns-clause-enough
returns-clause-enough g c = λ fate.
    subst (λ l. sum_by (λ (p : PlaceState). length (runs_of fate p.docket.settled)) l ≤ c.loop-place.total) (take_all c.loop-place.place-index c.args.places.now c.loop-place-test.false) (c.loop-place.invariant.enough fate)
