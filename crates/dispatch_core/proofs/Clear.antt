-- Sorted runs of which each ends before the next begins.
use Rattle.std.proofs.Common.{◌≡◌, ℕ, ◌+◌, ◌-◌, ◌<◌, ◌≤◌, true, false, List, [], ◌∷◌, ◌++◌, length, take, drop, get_or, All, inl, inr, refl, sym, ap, ◌∙◌, subst, ⊎_elim, arith, take-append-drop}
use Rattle.std.proofs.lemmas.Bool.{false≢true, cases_lt}
use Rattle.std.proofs.lemmas.List.{drop_more}
use Rattle.std.proofs.lemmas.List.Elements.{All-nil, All-cons, All-head, All-tail, All-append, All-weaker}
use Rattle.std.proofs.lemmas.Grind.{take_at_read}
use Rattle.dispatch_core.specs.declared.event.Job.{Job}
use Rattle.dispatch_core.specs.declared.runs.Run.{Run}
use Rattle.dispatch_core.specs.JobRuns.{jobs_of, jobs_of_run, NoneTwice, IsFilled, EachBefore, BeginsBefore, LiesApart}
use Rattle.dispatch_core.specs.Joining.{LiesClear, AreJoined, AreTidied}
use Rattle.dispatch_core.proofs.JobLists.{contains_run, count_of-append, count_of_contained}
use Rattle.dispatch_core.proofs.Orders.{All-back, each_across, each_between, across_first}

-- sorted runs that have no job in common end before the next begins
clear_of : (run : Run) (runs : List Run) → IsFilled run → All IsFilled runs → All (BeginsBefore run) runs → NoneTwice (jobs_of_run run ++ jobs_of runs) → All (LiesClear run) runs
clear_of run [] full filled before none = All-nil (LiesClear run)
clear_of run (next ∷ runs) full filled before none =
    let next_full = All-head IsFilled next runs filled in
    let first : Job = record { port = next.port; number = next.from } in
    All-cons (LiesClear run) next runs
    (⊎_elim
    (λ (less : run.port < next.port). inl less)
    (λ (same : (run.port ≡ next.port) × (run.from ≤ next.from)).
    ⊎_elim
    (λ (less : run.last < next.from). inr (same.0, less))
    (λ (more : next.from ≤ run.last).
    let here = count_of_contained (jobs_of_run run) first ((contains_run run first).1 (record { port = same.0; low = same.1; high = more })) in
    let there = count_of_contained (jobs_of_run next) first ((contains_run next first).1 (record { port = refl; low = omega arith; high = next_full.not_empty })) in
    let once = none first in
    absurd (omega (arith, count_of-append first (jobs_of_run run) (jobs_of_run next ++ jobs_of runs), count_of-append first (jobs_of_run next) (jobs_of runs))))
    (cases_lt run.last next.from))
    (All-head (BeginsBefore run) next runs before))
    (clear_of run runs full (All-tail IsFilled next runs filled) (All-tail (BeginsBefore run) next runs before)
    (λ job. let once = none job in omega (arith, count_of-append job (jobs_of_run run) (jobs_of_run next ++ jobs_of runs), count_of-append job (jobs_of_run next) (jobs_of runs), count_of-append job (jobs_of_run run) (jobs_of runs))))

pub clear_sorted : (runs : List Run) → All IsFilled runs → EachBefore BeginsBefore runs → NoneTwice (jobs_of runs) → EachBefore LiesClear runs
clear_sorted [] filled sorted none = tt
clear_sorted (run ∷ runs) filled sorted none = (
  clear_of run runs (All-head IsFilled run runs filled) (All-tail IsFilled run runs filled) sorted.0 none,
  clear_sorted runs (All-tail IsFilled run runs filled) sorted.1 (λ job. let once = none job in omega (arith, count_of-append job (jobs_of_run run) (jobs_of runs))),
)

-- runs that lie apart begin in order
pub in_order : (runs : List Run) → All IsFilled runs → EachBefore LiesApart runs → EachBefore BeginsBefore runs
in_order [] filled apart = tt
in_order (run ∷ runs) filled apart =
    let full = All-head IsFilled run runs filled in (
      All-weaker (LiesApart run) (BeginsBefore run)
          (λ next gap.
          ⊎_elim
          (λ (less : run.port < next.port). inl less)
          (λ (same : (run.port ≡ next.port) × (run.last + 1 < next.from)). let from : run.from ≤ next.from = omega (arith, same.1, full.not_empty) in inr (same.0, from))
          gap) runs apart.0,
      in_order runs (All-tail IsFilled run runs filled) apart.1,
    )

clear_through : (run middle next : Run) → IsFilled middle → LiesClear run middle → LiesClear middle next → LiesClear run next
clear_through run middle next full first second =
    ⊎_elim
    (λ (less : run.port < middle.port).
    ⊎_elim
    (λ (more : middle.port < next.port). let both : run.port < next.port = omega arith in inl both)
    (λ (same : (middle.port ≡ next.port) × (middle.last < next.from)). let both : run.port < next.port = omega (arith, same.0) in inl both)
    second)
    (λ (near : (run.port ≡ middle.port) × (run.last < middle.from)).
    ⊎_elim
    (λ (more : middle.port < next.port). let both : run.port < next.port = omega (arith, near.0) in inl both)
    (λ (same : (middle.port ≡ next.port) × (middle.last < next.from)). let from : run.last < next.from = omega (arith, near.1, same.1, full.not_empty) in inr (near.0 ∙ same.0, from))
    second)
    first

-- a place, the run there and the one before it
module _ (runs : List Run) (place : ℕ) (d : Run) (some : 1 ≤ place) (less : place < length runs) where
  abbrev front : List Run
  front = take (place - 1) runs

  abbrev prev : Run
  prev = get_or runs (place - 1) d

  abbrev run : Run
  run = get_or runs place d

  split : take place runs ≡ front ++ prev ∷ []
  split = let back : place - 1 + 1 ≡ place = omega arith in ap (λ m. take m runs) (sym back) ∙ (take_at_read runs (place - 1) d (omega arith)).1

  longer : take (place + 1) runs ≡ take place runs ++ run ∷ []
  longer = (take_at_read runs place d less).1

  -- one run more ends before the next begins
  pub clear_more : All IsFilled runs → EachBefore LiesClear (take place runs) → LiesClear prev run → EachBefore LiesClear (take (place + 1) runs)
  clear_more filled clear next =
      let full : IsFilled prev = filled (place - 1) d (omega arith) in
      let firsts = across_first LiesClear front prev [] (each_across LiesClear front (prev ∷ []) (subst (EachBefore LiesClear) split clear)) in
      let all : All (λ x. LiesClear x run) (front ++ prev ∷ []) = All-append (λ x. LiesClear x run) front (prev ∷ []) (All-weaker (λ x. LiesClear x prev) (λ x. LiesClear x run) (λ x h. clear_through x prev run full h next) front firsts) (All-cons (λ x. LiesClear x run) prev [] next (All-nil (λ x. LiesClear x run))) in
      let before : All (λ x. LiesClear x run) (take place runs) = subst (All (λ x. LiesClear x run)) (sym split) all in
      subst (EachBefore LiesClear) (sym longer)
      (each_between LiesClear (take place runs) run [] clear tt (All-weaker (λ x. LiesClear x run) (λ x. All (LiesClear x) []) (λ x h. All-nil (LiesClear x)) (take place runs) before) before (All-nil (LiesClear run)))

  clear_at : EachBefore LiesClear runs → LiesClear prev run
  clear_at clear =
      let rest : drop place runs ≡ run ∷ drop (place + 1) runs = drop_more runs place d less in
      let across = each_across LiesClear (take place runs) (drop place runs) (subst (EachBefore LiesClear) (sym (take-append-drop place runs)) clear) in
      let all : All (λ x. LiesClear x run) (take place runs) = across_first LiesClear (take place runs) run (drop (place + 1) runs) (subst (λ rs. All (λ x. All (LiesClear x) rs) (take place runs)) rest across) in
      All-head (λ x. LiesClear x run) prev [] (All-back (λ x. LiesClear x run) front (prev ∷ []) (subst (All (λ x. LiesClear x run)) split all))

  pub twice_there : All IsFilled runs → EachBefore BeginsBefore runs → ¬ LiesClear prev run → ¬ NoneTwice (jobs_of runs)
  twice_there filled sorted not none = not (clear_at (clear_sorted runs filled sorted none))

-- what tidying leaves
pub tidied_joined : (old new : List Run) → AreJoined old new → AreTidied old new false
tidied_joined old new joined =
    record {
      jobs = joined.jobs;
      stored = record {
        filled = joined.filled;
        in_order = in_order new joined.filled joined.apart;
        apart = λ _. joined.apart;
        repeats = λ some. absurd (false≢true some);
        within = joined.fewer;
      };
    }

pub tidied_twice : (runs : List Run) → All IsFilled runs → EachBefore BeginsBefore runs → ¬ NoneTwice (jobs_of runs) → AreTidied runs runs true
tidied_twice runs filled sorted twice =
    record {
      jobs = refl;
      stored = record {
        filled = filled;
        in_order = sorted;
        apart = λ none. absurd (false≢true (sym none));
        repeats = λ _. twice;
        within = omega arith;
      };
    }
