-- A long and a short sorted list of runs, seen as one: where a job stands in both, and what is taken out or goes on.
use Rattle.std.proofs.Common.{◌≡◌, ℕ, ◌+◌, ◌≤◌, Bool, true, false, Option, Some, None, List, ◌∷◌, ◌++◌, length, take, drop, All, refl, sym, ap, ◌∙◌, subst, arith, take-append-drop}
use Rattle.std.proofs.lemmas.List.{take_at, drop_at, length-take-le}
use Rattle.dispatch_core.specs.declared.event.Job.{Job}
use Rattle.dispatch_core.specs.declared.runs.Run.{Run}
use Rattle.dispatch_core.specs.declared.tiers.Tiers.{Tiers}
use Rattle.dispatch_core.specs.declared.tiers.Places.{Places}
use Rattle.dispatch_core.specs.JobRuns.{alone, IsFilled, EachBefore, BeginsBefore, LiesApart}
use Rattle.dispatch_core.specs.Joining.{begins_by, IsPlaceOf, EndsBefore, BeginsBehind}
use Rattle.dispatch_core.specs.Merging.{merged, TakesBehind, Lengthens, Shortens}
use Rattle.dispatch_core.specs.Tiered.{both, ArePlacesOf, IsCut, AreCutAt}
use Rattle.dispatch_core.proofs.Orders.{All-back, each_back}
use Rattle.dispatch_core.proofs.MergedLists.{length-merged, All-merged, merged_all}
use Rattle.dispatch_core.proofs.JoinedLists.{front_of, back_of, cut, begins_first, begins_second, none_begins, none_ends, longer_first, longer_second, shortened}

pub cut_of : (runs : List Run) (job : Job) (place : ℕ) → IsPlaceOf runs job place → IsCut runs job place
cut_of runs job place at = record { within = at.within; front = front_of runs job place at; back = back_of runs job place at }

pub cuts_of : (tiers : Tiers) (job : Job) (places : Places) → ArePlacesOf tiers job places → AreCutAt tiers job places
cuts_of tiers job places at = record { long = cut_of tiers.long.items job places.long at.long; short = cut_of tiers.short.items job places.short at.short }

pub still_cut : (old new : List Run) (job : Job) (place : ℕ) → IsPlaceOf old job place → Shortens old place job new → IsCut new job place
still_cut old new job place at shortens =
    record { within = shortens.within; front = subst (All (λ run. BeginsBefore run (alone job))) (sym shortens.front) (front_of old job place at); back = shortens.behind }

-- both lists are cut at one place
module _ (long short : List Run) (job : Job) (place near : ℕ) (at : IsCut long job place) (at_short : IsCut short job near) where
  abbrev front : List Run
  front = merged (take place long) (take near short)

  abbrev back : List Run
  back = merged (drop place long) (drop near short)

  parts : merged long short ≡ front ++ back
  parts =
      sym (ap (λ rs. merged rs (take near short ++ drop near short)) (take-append-drop place long) ∙ ap (merged long) (take-append-drop near short))
      ∙ cut job (take place long) (take near short) (drop place long) (drop near short) at.front at_short.front at.back at_short.back

  front_long : length front ≡ place + near
  front_long = length-merged (take place long) (take near short) ∙ omega (arith, length-take-le place long at.within, length-take-le near short at_short.within)

  pub take_both : take (place + near) (merged long short) ≡ front
  take_both = ap (take (place + near)) parts ∙ take_at front back (place + near) front_long

  pub drop_both : drop (place + near) (merged long short) ≡ back
  drop_both = ap (drop (place + near)) parts ∙ drop_at front back (place + near) front_long

  pub within_both : place + near ≤ length (merged long short)
  within_both = omega (arith, length-merged long short, at.within, at_short.within)

  -- the run that ends right before the job goes on
  module _ (filled : All IsFilled (take (place + near) (merged long short))) (apart : EachBefore LiesApart (take (place + near) (merged long short))) (last : ℕ) where
    fills : All IsFilled (take place long) × All IsFilled (take near short)
    fills = merged_all IsFilled (take place long) (take near short) (subst (All IsFilled) take_both filled)

    gaps : EachBefore LiesApart front
    gaps = subst (EachBefore LiesApart) take_both apart

    pub lengthened_first : (new : List Run) → Lengthens long place job last true new → Lengthens (merged long short) (place + near) job last true (merged new short)
    lengthened_first new lengthens =
        let ends = lengthens.0 in
        let longer = longer_first job last (take place long) (take near short) (drop place long) (drop near short) at.front at_short.front at.back at_short.back fills.1 gaps ends in
        let e = longer.0 in
        let there = take_both ∙ e.there in (
          record { front = e.front; run = e.run; there = there; port = e.port; touches = e.touches },
          ap (λ rs. merged rs short) lengthens.1 ∙ ap (merged (ends.front ++ record { port = ends.run.port; from = ends.run.from; last = last } ∷ drop place long)) (sym (take-append-drop near short)) ∙ longer.1
              ∙ ap (λ rs. e.front ++ record { port = e.run.port; from = e.run.from; last = last } ∷ rs) (sym drop_both),
        )

    pub lengthened_second : (new : List Run) → Lengthens short near job last true new → Lengthens (merged long short) (place + near) job last true (merged long new)
    lengthened_second new lengthens =
        let ends = lengthens.0 in
        let longer = longer_second job last (take place long) (take near short) (drop place long) (drop near short) at.front at_short.front at.back at_short.back fills.0 gaps ends in
        let e = longer.0 in
        let there = take_both ∙ e.there in (
          record { front = e.front; run = e.run; there = there; port = e.port; touches = e.touches },
          ap (merged long) lengthens.1 ∙ ap (λ rs. merged rs (ends.front ++ record { port = ends.run.port; from = ends.run.from; last = last } ∷ drop near short)) (sym (take-append-drop place long)) ∙ longer.1
              ∙ ap (λ rs. e.front ++ record { port = e.run.port; from = e.run.from; last = last } ∷ rs) (sym drop_both),
        )

    pub lengthened_neither : ¬ EndsBefore (take place long) job → ¬ EndsBefore (take near short) job → Lengthens (merged long short) (place + near) job last false (merged long short)
    lengthened_neither first second = (subst (λ rs. ¬ EndsBefore rs job) (sym take_both) (none_ends job (take place long) (take near short) first second), refl)

    -- where it is not the last of the first list
    pub lengthened_else : ¬ EndsBefore (take place long) job → (result : Bool) (new : List Run) → Lengthens short near job last result new → Lengthens (merged long short) (place + near) job last result (merged long new)
    lengthened_else first true new lengthens = lengthened_second new lengthens
    lengthened_else first false new lengthens = subst (λ rs. Lengthens (merged long short) (place + near) job last false (merged long rs)) (sym lengthens.1) (lengthened_neither first lengthens.0)

-- how many runs of both begin by a job
pub place_both : (long short : List Run) (job : Job) (place near : ℕ) → IsPlaceOf long job place → IsPlaceOf short job near → IsPlaceOf (merged long short) job (place + near)
place_both long short job place near at at_short =
    let first = cut_of long job place at in
    let second = cut_of short job near at_short in
    record {
      within = within_both long short job place near first second;
      front = subst (All (λ run. begins_by job run ≡ true)) (sym (take_both long short job place near first second)) (All-merged (λ run. begins_by job run ≡ true) (take place long) (take near short) at.front at_short.front);
      back = subst (All (λ run. begins_by job run ≡ false)) (sym (drop_both long short job place near first second)) (All-merged (λ run. begins_by job run ≡ false) (drop place long) (drop near short) at.back at_short.back);
    }

pub places_both : (tiers : Tiers) (job : Job) (places : Places) → ArePlacesOf tiers job places → IsPlaceOf (both tiers) job (places.long + places.short)
places_both tiers job places at = place_both tiers.long.items tiers.short.items job places.long places.short at.long at.short

-- the run right after the job is taken out
module _ (long short : List Run) (job : Job) (place near : ℕ) (at : IsPlaceOf long job place) (at_short : IsPlaceOf short job near) where
  first_cut : IsCut long job place
  first_cut = cut_of long job place at

  second_cut : IsCut short job near
  second_cut = cut_of short job near at_short

  pub taken_first : (last : ℕ) (new : List Run) → TakesBehind long place job (Some last) new → TakesBehind (merged long short) (place + near) job (Some last) (merged new short)
  taken_first last new taken =
      let b = begins_first job (drop place long) (drop near short) second_cut.back taken.0 in
      let shorter = still_cut long new job place at (shortened long new place job (Some last) at taken) in
      let begins : BeginsBehind (drop (place + near) (merged long short)) job = record { run = b.0.run; back = b.0.back; there = drop_both long short job place near first_cut second_cut ∙ b.0.there; port = b.0.port; touches = b.0.touches } in (
        begins,
        taken.1 ∙ b.1,
        take_both new short job place near shorter second_cut ∙ ap (λ rs. merged rs (take near short)) taken.2 ∙ sym (take_both long short job place near first_cut second_cut),
        drop_both new short job place near shorter second_cut ∙ ap (λ rs. merged rs (drop near short)) taken.3 ∙ b.2,
        within_both new short job place near shorter second_cut,
      )

  pub taken_second : All IsFilled (merged long short) → EachBefore LiesApart (merged long short) → (last : ℕ) (new : List Run) → TakesBehind short near job (Some last) new → TakesBehind (merged long short) (place + near) job (Some last) (merged long new)
  taken_second filled apart last new taken =
      let fills = merged_all IsFilled long short filled in
      let full = All-back IsFilled (take place long) (drop place long) (subst (All IsFilled) (sym (take-append-drop place long)) fills.0) in
      let full_beyond = All-back IsFilled (take near short) (drop near short) (subst (All IsFilled) (sym (take-append-drop near short)) fills.1) in
      let gaps = each_back LiesApart (front long short job place near first_cut second_cut) (back long short job place near first_cut second_cut) (subst (EachBefore LiesApart) (parts long short job place near first_cut second_cut) apart) in
      let b = begins_second job (drop place long) (drop near short) first_cut.back full full_beyond gaps taken.0 in
      let shorter = still_cut short new job near at_short (shortened short new near job (Some last) at_short taken) in
      let begins : BeginsBehind (drop (place + near) (merged long short)) job = record { run = b.0.run; back = b.0.back; there = drop_both long short job place near first_cut second_cut ∙ b.0.there; port = b.0.port; touches = b.0.touches } in (
        begins,
        taken.1 ∙ b.1,
        take_both long new job place near first_cut shorter ∙ ap (merged (take place long)) taken.2 ∙ sym (take_both long short job place near first_cut second_cut),
        drop_both long new job place near first_cut shorter ∙ ap (merged (drop place long)) taken.3 ∙ b.2,
        within_both long new job place near first_cut shorter,
      )

  pub taken_neither : ¬ BeginsBehind (drop place long) job → ¬ BeginsBehind (drop near short) job → TakesBehind (merged long short) (place + near) job None (merged long short)
  taken_neither first second = (subst (λ rs. ¬ BeginsBehind rs job) (sym (drop_both long short job place near first_cut second_cut)) (none_begins job (drop place long) (drop near short) first second), refl)

  -- where it is not the first after the job in the first list
  pub taken_else : ¬ BeginsBehind (drop place long) job → All IsFilled (merged long short) → EachBefore LiesApart (merged long short) → (result : Option ℕ) (new : List Run) → TakesBehind short near job result new → TakesBehind (merged long short) (place + near) job result (merged long new)
  taken_else first filled apart None new taken = subst (λ rs. TakesBehind (merged long short) (place + near) job None (merged long rs)) (sym taken.1) (taken_neither first taken.0)
  taken_else first filled apart (Some last) new taken = taken_second filled apart last new taken
