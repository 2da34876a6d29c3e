-- The place of a job among sorted runs.
use Rattle.std.proofs.Common.{◌≡◌, ℕ, zero, suc, ◌+◌, ◌<◌, ◌≤◌, true, false, List, [], ◌∷◌, length, get_or, sym, ◌∙◌, subst, inl, inr, ⊎_elim, arith, get_or-take, get_or-drop, length-take, length-drop}
use Rattle.std.specs.List.Sorted.{IsPartitionedBy, IsPartitionPoint}
use Rattle.std.proofs.lemmas.List.Elements.{All-get_or}
use Rattle.dispatch_core.specs.declared.event.Job.{Job}
use Rattle.dispatch_core.specs.declared.runs.Run.{Run}
use Rattle.dispatch_core.specs.JobRuns.{EachBefore, BeginsBefore}
use Rattle.dispatch_core.specs.JobRuns.{alone}
use Rattle.dispatch_core.specs.Joining.{begins_by, IsPlaceOf}
use Rattle.dispatch_core.proofs.Orders.{begins_by_true, begins_by_if}

begins_earlier : (earlier later : Run) (job : Job) → BeginsBefore earlier later → BeginsBefore later (alone job) → BeginsBefore earlier (alone job)
begins_earlier earlier later job before begins =
    ⊎_elim
    (λ (less : earlier.port < later.port).
    ⊎_elim
    (λ (more : later.port < job.port). let both : earlier.port < job.port = omega arith in inl both)
    (λ (same : (later.port ≡ job.port) × (later.from ≤ job.number)). let both : earlier.port < job.port = omega (arith, same.0) in inl both)
    begins)
    (λ (near : (earlier.port ≡ later.port) × (earlier.from ≤ later.from)).
    ⊎_elim
    (λ (more : later.port < job.port). let both : earlier.port < job.port = omega (arith, near.0) in inl both)
    (λ (same : (later.port ≡ job.port) × (later.from ≤ job.number)). let from : earlier.from ≤ job.number = omega (arith, near.1, same.1) in inr (near.0 ∙ same.0, from))
    begins)
    before

-- sorted runs: those that begin at a job or before it stand first
pub partitioned : (runs : List Run) (job : Job) → EachBefore BeginsBefore runs → IsPartitionedBy (begins_by job) runs
partitioned [] job sorted i j d le within is = absurd (omega arith)
partitioned (run ∷ runs) job sorted zero zero d le within is = is
partitioned (run ∷ runs) job sorted zero (suc j) d le within is =
    begins_by_if job run (begins_earlier run (get_or runs j d) job (All-get_or (BeginsBefore run) runs j d (omega arith) sorted.0) (begins_by_true job (get_or runs j d) is))
partitioned (run ∷ runs) job sorted (suc i) zero d le within is = absurd (omega arith)
partitioned (run ∷ runs) job sorted (suc i) (suc j) d le within is = partitioned runs job sorted.1 i j d (omega arith) (omega arith) is

pub place_there : (runs : List Run) (job : Job) (place : ℕ) → place ≤ length runs → IsPartitionPoint (λ run. begins_by job run ≡ true) (λ run. begins_by job run ≡ false) runs place → IsPlaceOf runs job place
place_there runs job place within point =
    record {
      within = within;
      front = λ k d less.
          let short : k < place = omega (arith, length-take place runs) in
          subst (λ r. begins_by job r ≡ true) (sym (get_or-take place runs k d short)) (point.0 k d (omega arith) short);
      back = λ k d less.
          let short : place + k < length runs = omega (arith, length-drop place runs) in
          subst (λ r. begins_by job r ≡ false) (sym (get_or-drop place runs k d)) (point.1 (place + k) d (omega arith) short);
    }
