-- Two lists of jobs put together: their runs are merged, and joined where they touch.
use Rattle.std.proofs.Common.{◌≡◌, ℕ, ◌+◌, ◌≤◌, Bool, List, ◌++◌, length, IsPermutation, [], All, sym, ap, ◌∙◌, subst, arith}
use Rattle.dispatch_core.specs.declared.runs.Run.{Run}
use Rattle.dispatch_core.specs.JobRuns.{jobs_of, IsFilled, EachBefore, BeginsBefore}
use Rattle.dispatch_core.specs.Joining.{AreTidied, IsStored}
use Rattle.dispatch_core.specs.Merging.{merged, IsKeptIn}
use Rattle.dispatch_core.proofs.MergedLists.{merged-nil, jobs_of-merged, length-merged, All-merged, sorted-merged}

-- two lists of jobs as they are stored
module _ (runs more : List Run) (capacity more_capacity : ℕ) (has_repeats more_repeats : Bool) (stored : IsStored runs capacity has_repeats) (more_stored : IsStored more more_capacity more_repeats) where
  pub all_filled : All IsFilled (merged runs more)
  all_filled = All-merged IsFilled runs more stored.filled more_stored.filled

  pub all_sorted : EachBefore BeginsBefore (merged runs more)
  all_sorted = sorted-merged runs more stored.in_order more_stored.in_order

  -- what is left when they are tidied, with two empty lists beside it
  module _ (new short none : List Run) (twice : Bool) (tidied : AreTidied (merged runs more) new twice) (no_short : short ≡ []) (nothing : none ≡ []) where
    alone : merged (merged new short) none ≡ new
    alone = ap (merged (merged new short)) nothing ∙ merged-nil (merged new short) ∙ ap (merged new) no_short ∙ merged-nil new

    pub new_jobs : IsPermutation (jobs_of runs ++ jobs_of more) (jobs_of (merged (merged new short) none))
    new_jobs = subst (IsPermutation (jobs_of runs ++ jobs_of more)) (sym (ap jobs_of alone ∙ tidied.jobs)) (jobs_of-merged runs more)

    pub new_long : length (merged (merged new short) none) ≤ length runs + length more
    new_long = let few = tidied.stored.within in let same = ap length alone in omega (arith, length-merged runs more)

    pub new_kept : (new_capacity new_room : ℕ) → length (merged (merged new short) none) ≤ new_capacity → (1 ≤ new_capacity → 1 ≤ new_room) → IsKeptIn (merged new short) none new_capacity new_room twice
    new_kept new_capacity new_room within some =
        let kept = tidied.stored in
        record {
          stored = subst (λ rs. IsStored rs new_capacity twice) (sym alone)
              (record { filled = kept.filled; in_order = kept.in_order; apart = kept.apart; repeats = kept.repeats; within = omega (arith, ap length alone) });
          some_room = some;
        }
