-- How a list of jobs is kept in two lists, after a job was added.
use Rattle.std.proofs.Common.{◌≡◌, ℕ, ◌+◌, ◌<◌, ◌≤◌, ◌⊎◌, Bool, true, List, ◌∷◌, ◌++◌, length, take, drop, insert, IsPermutation, All, Contains, sym, ap, ◌∙◌, subst, ⊎_elim, arith, take-append-drop}
use Rattle.dispatch_core.specs.declared.event.Job.{Job}
use Rattle.dispatch_core.specs.declared.runs.Run.{Run}
use Rattle.dispatch_core.specs.JobRuns.{alone, jobs_of, NoneTwice, IsFilled, EachBefore, BeginsBefore, GetsOwnRun, JoinsRuns}
use Rattle.dispatch_core.specs.Joining.{IsPlaceOf, Joins, IsStored}
use Rattle.dispatch_core.specs.Merging.{merged, BeginsAfter, IsKeptIn}
use Rattle.dispatch_core.proofs.MergedLists.{merged_each, merged_all, length-merged, All-merged}
use Rattle.dispatch_core.proofs.JoinedLists.{put_second, cut_there, front_of, back_of}
use Rattle.dispatch_core.proofs.Stored.{own_jobs, own_stored, own_counts, joined_stored}

-- both lists are sorted, and filled
module _ (settled recent : List Run) (capacity room : ℕ) (has_repeats : Bool) (kept : IsKeptIn settled recent capacity room has_repeats) where
  pub sorted_settled : EachBefore BeginsBefore settled
  sorted_settled = (merged_each BeginsBefore settled recent kept.stored.in_order).0

  pub sorted_recent : EachBefore BeginsBefore recent
  sorted_recent = (merged_each BeginsBefore settled recent kept.stored.in_order).1

  pub filled_settled : All IsFilled settled
  filled_settled = (merged_all IsFilled settled recent kept.stored.filled).0

  pub filled_recent : All IsFilled recent
  filled_recent = (merged_all IsFilled settled recent kept.stored.filled).1

  pub lengths_within : length settled + length recent ≤ capacity
  lengths_within = omega (arith, kept.stored.within, length-merged settled recent)

  -- the same runs, in two lists with no less room
  pub kept_same : (new_settled new_recent : List Run) (more_capacity more : ℕ) → merged new_settled new_recent ≡ merged settled recent → capacity ≤ more_capacity → (1 ≤ more) ⊎ ((more_capacity ≤ capacity) × (room ≤ more)) → IsKeptIn new_settled new_recent more_capacity more has_repeats
  kept_same new_settled new_recent more_capacity more same larger some =
      let stored = kept.stored in
      record {
        stored = subst (λ rs. IsStored rs more_capacity has_repeats) (sym same) (record { filled = stored.filled; in_order = stored.in_order; apart = stored.apart; repeats = stored.repeats; within = omega (arith, stored.within) });
        some_room = λ less.
            let long = ap length same in
            ⊎_elim (λ (one : 1 ≤ more). one) (λ (as_before : (more_capacity ≤ capacity) × (room ≤ more)). let was = kept.some_room (omega (arith, as_before.0)) in omega (arith, as_before.1)) some;
      }

-- a job that gets a run of its own
module _ (runs settled recent new : List Run) (job : Job) (place near capacity : ℕ) (has_repeats : Bool) (same : merged settled recent ≡ runs) (stored : IsStored runs capacity has_repeats) (at : IsPlaceOf settled job place) (at_near : IsPlaceOf recent job near) (why : (has_repeats ≡ true) ⊎ Contains (jobs_of (merged settled recent)) job) (is : new ≡ insert recent near (alone job)) where
  abbrev pub front : List Run
  front = merged (take place settled) (take near recent)

  abbrev pub back : List Run
  back = merged (drop place settled) (drop near recent)

  pub was_there : runs ≡ front ++ back
  was_there = sym (cut_there settled recent job place near at at_near ∙ same)

  pub is_there : merged settled new ≡ front ++ alone job ∷ back
  is_there =
      ap (merged settled) is ∙ ap (λ rs. merged rs (take near recent ++ alone job ∷ drop near recent)) (sym (take-append-drop place settled))
      ∙ put_second job job.number (take place settled) (take near recent) (drop place settled) (drop near recent) (front_of settled job place at) (front_of recent job near at_near) (back_of settled job place at) (back_of recent job near at_near)

  reason : (has_repeats ≡ true) ⊎ Contains (jobs_of runs) job
  reason = subst (λ rs. (has_repeats ≡ true) ⊎ Contains (jobs_of rs) job) same why

  pub own_kept : (room : ℕ) → job.number < 18446744073709551615 → length (merged settled new) ≤ capacity → 1 ≤ room → IsKeptIn settled new capacity room true
  own_kept room small within some =
      record {
        stored = own_stored runs (merged settled new) front back job capacity has_repeats stored reason
            (All-merged (λ r. BeginsBefore r (alone job)) (take place settled) (take near recent) (front_of settled job place at) (front_of recent job near at_near))
            (All-merged (λ r. BeginsAfter r job) (drop place settled) (drop near recent) (back_of settled job place at) (back_of recent job near at_near)) small was_there is_there within;
        some_room = λ less. some;
      }

  pub own_permutes : IsPermutation (job ∷ jobs_of runs) (jobs_of (merged settled new))
  own_permutes = own_jobs runs (merged settled new) front back job was_there is_there

  pub own_run : GetsOwnRun runs job (merged settled new)
  own_run = (front, back, was_there, is_there)

  pub own_never : NoneTwice (job ∷ jobs_of runs) → JoinsRuns (jobs_of runs) job (length runs) (length (merged settled new))
  own_never none = own_counts runs job capacity has_repeats (JoinsRuns (jobs_of runs) job (length runs) (length (merged settled new))) stored reason none

-- a job that joins the runs that it touches
pub join_kept : (old settled recent : List Run) (job : Job) (capacity room : ℕ) (has_repeats : Bool) → IsStored old capacity has_repeats → Joins old job (merged settled recent) → length (merged settled recent) ≤ capacity → 1 ≤ room → IsKeptIn settled recent capacity room has_repeats
join_kept old settled recent job capacity room has_repeats stored joins within some =
    record { stored = joined_stored old (merged settled recent) job capacity has_repeats stored joins within; some_room = λ less. some }
