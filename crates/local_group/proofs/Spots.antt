-- Lists beside a state in which one job comes to another spot.
use Rattle.std.proofs.Common.{◌≡◌, ◌≢◌, ℕ, ◌+◌, ◌-◌, ◌≤◌, List, [], ◌∷◌, length, Option, Some, None, refl, sym, ap, ◌∙◌, ⊎_elim, arith}
use Rattle.dispatch_core.specs.declared.event.Job.{Job}
use Rattle.dispatch_core.specs.declared.event.Spot.{Spot}
use Rattle.dispatch_core.specs.declared.event.Spot.TheVariants.{Queued, Held, Acked, Refused, Discarded, Returned}
use Rattle.dispatch_core.specs.GroupState.{GroupState, spot_of}
use Rattle.dispatch_core.specs.Step.{Moves}
use Rattle.dispatch_core.specs.JobRuns.{count_of}
use Rattle.local_group.specs.Keeping.{Outs}
use Rattle.group_jobs.specs.Spots.{times_queued, times_out, times_returned, Lists}
use Rattle.dispatch_core.proofs.JobLists.{count_of-cons}
use Rattle.dispatch_core.proofs.Spots.{same_job}
use Rattle.local_group.proofs.Counts.{count_of-same, count_of-other, take_off}

module _ (times : Option Spot → ℕ) (old new : GroupState) (job : Job) (spot : Spot) (moves : Moves old job spot new) where
  there : (other : Job) → other ≡ job → times (spot_of new other) ≡ times (Some spot)
  there other same = ap (λ j. times (spot_of new j)) same ∙ ap times moves.there

  elsewhere : (other : Job) → other ≢ job → times (spot_of new other) ≡ times (spot_of old other)
  elsewhere other differs = ap times (moves.others other differs)

  -- a list that gains the job
  pub lists_more : (xs ys : List Job) → times (spot_of old job) ≡ 0 → times (Some spot) ≡ 1 → ((other : Job) → count_of other ys ≡ count_of other (job ∷ []) + count_of other xs) → Lists times old xs → Lists times new ys
  lists_more xs ys was is grown lists other =
      ⊎_elim
      (λ (same : other ≡ job).
      let one : count_of other (job ∷ []) ≡ 1 = ap (λ j. count_of j (job ∷ [])) same ∙ count_of-same job in
      let none : times (spot_of old other) ≡ 0 = ap (λ j. times (spot_of old j)) same ∙ was in
      omega (arith, grown other, lists other, there other same, one, none, is))
      (λ (differs : other ≢ job). omega (arith, grown other, lists other, elsewhere other differs, count_of-other other job differs))
      (same_job other job)

  -- a list that loses it
  pub lists_less : (xs ys : List Job) → times (spot_of old job) ≡ 1 → times (Some spot) ≡ 0 → ((other : Job) → count_of other xs ≡ count_of other (job ∷ []) + count_of other ys) → Lists times old xs → Lists times new ys
  lists_less xs ys was is grown lists other =
      ⊎_elim
      (λ (same : other ≡ job).
      let one : count_of other (job ∷ []) ≡ 1 = ap (λ j. count_of j (job ∷ [])) same ∙ count_of-same job in
      let some : times (spot_of old other) ≡ 1 = ap (λ j. times (spot_of old j)) same ∙ was in
      omega (arith, grown other, lists other, there other same, one, some, is))
      (λ (differs : other ≢ job). omega (arith, grown other, lists other, elsewhere other differs, count_of-other other job differs))
      (same_job other job)

  -- and one that never had it
  pub lists_same : (xs : List Job) → times (spot_of old job) ≡ 0 → times (Some spot) ≡ 0 → Lists times old xs → Lists times new xs
  lists_same xs was is lists other =
      ⊎_elim
      (λ (same : other ≡ job).
      let none : times (spot_of old other) ≡ 0 = ap (λ j. times (spot_of old j)) same ∙ was in
      omega (arith, lists other, there other same, none, is))
      (λ (differs : other ≢ job). lists other ∙ sym (elsewhere other differs))
      (same_job other job)

module _ (old new : GroupState) (job : Job) (spot : Spot) (moves : Moves old job spot new) (count : ℕ) (outs : Outs old count) where
  pub outs_more : times_out (spot_of old job) ≡ 0 → times_out (Some spot) ≡ 1 → Outs new (count + 1)
  outs_more was is =
      let many : length outs.jobs ≡ count = outs.many in
      record {
        jobs = job ∷ outs.jobs;
        out = lists_more times_out old new job spot moves outs.jobs (job ∷ outs.jobs) was is (λ other. count_of-cons other job outs.jobs) outs.out;
        many = omega arith;
      }

  -- one was out
  pub one_out : times_out (spot_of old job) ≡ 1 → 1 ≤ count
  one_out was =
      let rest = take_off outs.jobs job (omega (arith, outs.out job, was)) in
      omega (arith, rest.1, outs.many)

  pub outs_less : times_out (spot_of old job) ≡ 1 → times_out (Some spot) ≡ 0 → Outs new (count - 1)
  outs_less was is =
      let rest = take_off outs.jobs job (omega (arith, outs.out job, was)) in
      record { jobs = rest.0; out = lists_less times_out old new job spot moves outs.jobs rest.0 was is rest.2 outs.out; many = omega (arith, rest.1, outs.many) }

  pub outs_same : times_out (spot_of old job) ≡ 0 → times_out (Some spot) ≡ 0 → Outs new count
  outs_same was is = record { jobs = outs.jobs; out = lists_same times_out old new job spot moves outs.jobs was is outs.out; many = outs.many }

-- a job that the queue has is queued, one that is among the returned ones is returned
pub queued_if : (spot : Option Spot) → 1 ≤ times_queued spot → spot ≡ Some Queued
queued_if None some = absurd (omega arith)
queued_if (Some Queued) some = refl
queued_if (Some (Held place)) some = absurd (omega arith)
queued_if (Some (Acked place)) some = absurd (omega arith)
queued_if (Some (Refused place)) some = absurd (omega arith)
queued_if (Some (Discarded place)) some = absurd (omega arith)
queued_if (Some Returned) some = absurd (omega arith)

pub returned_if : (spot : Option Spot) → 1 ≤ times_returned spot → spot ≡ Some Returned
returned_if None some = absurd (omega arith)
returned_if (Some Queued) some = absurd (omega arith)
returned_if (Some (Held place)) some = absurd (omega arith)
returned_if (Some (Acked place)) some = absurd (omega arith)
returned_if (Some (Refused place)) some = absurd (omega arith)
returned_if (Some (Discarded place)) some = absurd (omega arith)
returned_if (Some Returned) some = refl
