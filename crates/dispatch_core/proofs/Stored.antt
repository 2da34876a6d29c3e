-- How a list of jobs is kept, after each of its calls.
use Rattle.std.proofs.Common.{◌≡◌, ℕ, zero, suc, ◌+◌, ◌-◌, ◌<◌, ◌≤◌, ◌⊎◌, ◌&&◌, ◌||◌, Bool, true, false, eqb, cond, List, [], ◌∷◌, ◌++◌, length, take, drop, slice_get, Option, Some, None, IsPermutation, All, Contains, refl, sym, ap, ◌∙◌, subst, inl, inr, ⊎_elim, arith, take-append-drop}
use Rattle.std.specs.List.{list_any}
use Rattle.std.proofs.lemmas.Bool.{cases_Bool, false≢true}
use Rattle.std.proofs.lemmas.List.Elements.{All-cons, All-head, All-tail, All-append, All-weaker}
use Rattle.std.proofs.lemmas.List.Sorted.{IsPermutation-middle, IsPermutation-sym, sum_by-IsPermutation}
use Rattle.dispatch_core.specs.declared.event.Job.{Job}
use Rattle.dispatch_core.specs.declared.runs.Run.{Run}
use Rattle.dispatch_core.specs.JobRuns.{alone, jobs_of, count_of, NoneTwice, IsFilled, EachBefore, BeginsBefore, LiesApart, AreKept, JoinsRuns}
use Rattle.dispatch_core.specs.Joining.{covers, IsPlaceOf, PutsIn, Joins, IsStored}
use Rattle.dispatch_core.specs.Merging.{BeginsAfter}
use Rattle.dispatch_core.proofs.JobLists.{Covers, IsCovered, covered_contains, contains_covered, count_of-append, count_of-cons, count_of_contained}
use Rattle.dispatch_core.proofs.Orders.{All-front, All-back, each_front, each_back, each_across, each_between, across_first, begins_by_true, begins_by_false, covers_true}
use Rattle.dispatch_core.proofs.Joined.{covered_front, covered_back, covered_parts, puts_in, uncovered_by_later}
use Rattle.dispatch_core.proofs.JoinedCases.{filled_alone, job_alone, begins_later}

-- a job that is put in stands there once more than before, and each other as often
puts_in_permutes : (old new : List Job) (job : Job) → PutsIn old job new → IsPermutation (job ∷ old) new
puts_in_permutes old new job put =
    subst (λ js. IsPermutation (job ∷ js) new) (sym put.was) (subst (IsPermutation (job ∷ (put.before ++ put.behind))) (sym put.is)
    (IsPermutation-sym (put.before ++ job ∷ put.behind) (job ∷ (put.before ++ put.behind)) (IsPermutation-middle put.before job put.behind)))

counts_more : (old new : List Job) (job other : Job) → PutsIn old job new → count_of other new ≡ count_of other (job ∷ []) + count_of other old
counts_more old new job other put =
    let a = count_of-append other put.before (job ∷ put.behind) in
    let b = count_of-cons other job put.behind in
    let c = count_of-append other put.before put.behind in
    let d = ap (count_of other) put.was in
    let e = ap (count_of other) put.is in
    omega arith

-- a job that was there is there twice
twice : (old : List Job) (job : Job) → Contains old job → ¬ NoneTwice (job ∷ old)
twice old job has none =
    let once = none job in
    let one = count_of_contained (job ∷ []) job (0, omega arith, refl) in
    let more = count_of_contained old job has in
    let no : ⊥ = omega (arith, count_of-cons job job old) in
    no

fewer_once : (old : List Job) (job : Job) → NoneTwice (job ∷ old) → NoneTwice old
fewer_once old job none other = let once = none other in omega (arith, count_of-cons other job old)

still_twice : (old new : List Job) (job : Job) → PutsIn old job new → ¬ NoneTwice old → ¬ NoneTwice new
still_twice old new job put twice_old none = twice_old (λ other. let once = none other in omega (arith, counts_more old new job other put))

twice_new : (old new : List Job) (job : Job) → PutsIn old job new → Contains old job → ¬ NoneTwice new
twice_new old new job put has none = twice old job has (λ other. let once = none other in omega (arith, counts_more old new job other put, count_of-cons other job old))

-- where no job is there twice, the mark says so
unrepeated : (runs : List Run) (capacity : ℕ) (has_repeats : Bool) → IsStored runs capacity has_repeats → NoneTwice (jobs_of runs) → EachBefore LiesApart runs
unrepeated runs capacity has_repeats stored none =
    ⊎_elim (λ (is : has_repeats ≡ true). absurd (stored.repeats is none)) (λ (is : has_repeats ≡ false). stored.apart is) (cases_Bool has_repeats)

pub kept_runs : (runs : List Run) (capacity : ℕ) (has_repeats : Bool) → IsStored runs capacity has_repeats → AreKept runs
kept_runs runs capacity has_repeats stored = record { filled = stored.filled; in_order = stored.in_order; apart = unrepeated runs capacity has_repeats stored }

pub stored_in_room : (runs same : List Run) (capacity more : ℕ) (has_repeats : Bool) → same ≡ runs → length runs ≤ more → IsStored runs capacity has_repeats → IsStored same more has_repeats
stored_in_room runs same capacity more has_repeats is within stored =
    subst (λ rs. IsStored rs more has_repeats) (sym is) (record { filled = stored.filled; in_order = stored.in_order; apart = stored.apart; repeats = stored.repeats; within = within })

-- a job with a run of its own
own_puts_in : (old new front back : List Run) (job : Job) → old ≡ front ++ back → new ≡ front ++ alone job ∷ back → PutsIn (jobs_of old) job (jobs_of new)
own_puts_in old new front back job was is = puts_in old new front [] back (alone job) job was is (record { before = []; behind = []; was = refl; is = job_alone job })

pub own_jobs : (old new front back : List Run) (job : Job) → old ≡ front ++ back → new ≡ front ++ alone job ∷ back → IsPermutation (job ∷ jobs_of old) (jobs_of new)
own_jobs old new front back job was is = puts_in_permutes (jobs_of old) (jobs_of new) job (own_puts_in old new front back job was is)

pub own_joins : (old : List Run) (job : Job) (P : Type 0) → Contains (jobs_of old) job → NoneTwice (job ∷ jobs_of old) → P
own_joins old job P has none = absurd (twice (jobs_of old) job has none)

pub own_repeats : (old new front back : List Run) (job : Job) (capacity : ℕ) (has_repeats : Bool) → IsStored old capacity has_repeats → (has_repeats ≡ true) ⊎ Contains (jobs_of old) job → old ≡ front ++ back → new ≡ front ++ alone job ∷ back → ¬ NoneTwice (jobs_of new)
own_repeats old new front back job capacity has_repeats stored why was is =
    let put = own_puts_in old new front back job was is in
    ⊎_elim (λ (some : has_repeats ≡ true). still_twice (jobs_of old) (jobs_of new) job put (stored.repeats some)) (λ (has : Contains (jobs_of old) job). twice_new (jobs_of old) (jobs_of new) job put has) why

pub own_stored : (old new front back : List Run) (job : Job) (capacity : ℕ) (has_repeats : Bool) → IsStored old capacity has_repeats → (has_repeats ≡ true) ⊎ Contains (jobs_of old) job → All (λ r. BeginsBefore r (alone job)) front → All (λ r. BeginsAfter r job) back → job.number < 18446744073709551615 → old ≡ front ++ back → new ≡ front ++ alone job ∷ back → length new ≤ capacity → IsStored new capacity true
own_stored old new front back job capacity has_repeats stored why before behind small was is within =
    let filled = subst (All IsFilled) was stored.filled in
    let sorted = subst (EachBefore BeginsBefore) was stored.in_order in
    record {
      filled = subst (All IsFilled) (sym is) (All-append IsFilled front (alone job ∷ back) (All-front IsFilled front back filled) (All-cons IsFilled (alone job) back (filled_alone job small) (All-back IsFilled front back filled)));
      in_order = subst (EachBefore BeginsBefore) (sym is)
          (each_between BeginsBefore front (alone job) back (each_front BeginsBefore front back sorted) (each_back BeginsBefore front back sorted) (each_across BeginsBefore front back sorted) before
          (All-weaker (λ r. BeginsAfter r job) (BeginsBefore (alone job)) (begins_later job) back behind));
      apart = λ none. absurd (false≢true (sym none));
      repeats = λ _. own_repeats old new front back job capacity has_repeats stored why was is;
      within = within;
    }

pub own_counts : (old : List Run) (job : Job) (capacity : ℕ) (has_repeats : Bool) (P : Type 0) → IsStored old capacity has_repeats → (has_repeats ≡ true) ⊎ Contains (jobs_of old) job → NoneTwice (job ∷ jobs_of old) → P
own_counts old job capacity has_repeats P stored why none =
    ⊎_elim (λ (some : has_repeats ≡ true). absurd (stored.repeats some (fewer_once (jobs_of old) job none))) (λ (has : Contains (jobs_of old) job). own_joins old job P has none) why

-- a job that was not there
pub joined_jobs : (old new : List Run) (job : Job) → Joins old job new → IsPermutation (job ∷ jobs_of old) (jobs_of new)
joined_jobs old new job joins = puts_in_permutes (jobs_of old) (jobs_of new) job joins.put_in

pub joined_count : (old new : List Run) (job : Job) (capacity : ℕ) (has_repeats : Bool) → IsStored old capacity has_repeats → Joins old job new → NoneTwice (job ∷ jobs_of old) → JoinsRuns (jobs_of old) job (length old) (length new)
joined_count old new job capacity has_repeats stored joins none = joins.count (unrepeated old capacity has_repeats stored (fewer_once (jobs_of old) job none))

pub joined_stored : (old new : List Run) (job : Job) (capacity : ℕ) (has_repeats : Bool) → IsStored old capacity has_repeats → Joins old job new → length new ≤ capacity → IsStored new capacity has_repeats
joined_stored old new job capacity has_repeats stored joins within =
    record {
      filled = joins.filled;
      in_order = joins.in_order;
      apart = λ none. joins.apart (stored.apart none);
      repeats = λ some. still_twice (jobs_of old) (jobs_of new) job joins.put_in (stored.repeats some);
      within = within;
    }

-- a look for a job
pub any_covers : (runs : List Run) (job : Job) → (list_any (covers job) runs ≡ true → Contains (jobs_of runs) job) × (Contains (jobs_of runs) job → list_any (covers job) runs ≡ true)
any_covers runs job = (λ some. covered_contains runs job (some_covered runs some), λ has. covered_some runs (contains_covered runs job has))
  where
    some_covered : (rs : List Run) → list_any (covers job) rs ≡ true → IsCovered rs job
    some_covered [] some = absurd (false≢true some)
    some_covered (r ∷ rs) some =
        ⊎_elim (λ (is : covers job r ≡ true). inl ((covers_true job r).0 is)) (λ (not : covers job r ≡ false). inr (some_covered rs (subst (λ b. (b || list_any (covers job) rs) ≡ true) not some))) (cases_Bool (covers job r))

    covered_some : (rs : List Run) → IsCovered rs job → list_any (covers job) rs ≡ true
    covered_some [] covered = absurd covered
    covered_some (r ∷ rs) covered =
        ⊎_elim
        (λ (is : covers job r ≡ true). ap (λ b. b || list_any (covers job) rs) is)
        (λ (not : covers job r ≡ false).
        ap (λ b. b || list_any (covers job) rs) not ∙ covered_some rs (⊎_elim (λ (here : Covers r job). absurd (false≢true (sym not ∙ (covers_true job r).1 here))) (λ (behind : IsCovered rs job). behind) covered))
        (cases_Bool (covers job r))

-- the last of some runs, if there is one
last_of : (runs : List Run) (run : Run) → slice_get runs (length runs - 1) ≡ Some run → (front : List Run) × (runs ≡ front ++ run ∷ [])
last_of [] run there = absurd (let e : ◌≡◌ {A = Option Run} None (Some run) = there in cc)
last_of (r ∷ []) run there = let one : slice_get (r ∷ []) 0 ≡ Some run = there in let e : r ≡ run = cc in ([], ap (λ x. x ∷ []) e)
last_of (r ∷ s ∷ rest) run there =
    let same : suc (suc (length rest)) - 1 ≡ suc (suc (length rest) - 1) = omega arith in
    let less : slice_get (s ∷ rest) (suc (length rest) - 1) ≡ Some run = sym (ap (slice_get (r ∷ s ∷ rest)) same) ∙ there in
    let tail = last_of (s ∷ rest) run less in
    (r ∷ tail.0, ap (λ rs. r ∷ rs) tail.1)

no_last : (runs : List Run) → slice_get runs (length runs - 1) ≡ None → runs ≡ []
no_last [] none = refl
no_last (r ∷ rest) none =
    let lt : suc (length rest) - 1 < suc (length rest) = omega arith in
    absurd (none_within (r ∷ rest) (suc (length rest) - 1) lt none)
  where
    none_within : (xs : List Run) (k : ℕ) → k < length xs → slice_get xs k ≡ None → ⊥
    none_within [] k less e = omega arith
    none_within (x ∷ xs) zero less e = let h : ◌≡◌ {A = Option Run} (Some x) None = e in cc
    none_within (x ∷ xs) (suc k) less e = none_within xs k (omega arith) e

-- where runs lie apart, a job can only be in the last of those that begin at it or before
covered_last : (front : List Run) (run : Run) (job : Job) → EachBefore LiesApart (front ++ run ∷ []) → BeginsBefore run (alone job) → IsCovered (front ++ run ∷ []) job → Covers run job
covered_last front run job apart begins covered =
    ⊎_elim
    (λ (f : IsCovered front job). absurd (apart_uncovered front (across_first LiesApart front run [] (each_across LiesApart front (run ∷ []) apart)) f))
    (λ (l : Covers run job ⊎ ⊥). ⊎_elim (λ (here : Covers run job). here) (λ (no : ⊥). absurd no) l)
    (covered_parts front (run ∷ []) job covered)
  where
    apart_uncovered : (rs : List Run) → All (λ r. LiesApart r run) rs → ¬ IsCovered rs job
    apart_uncovered [] all c = c
    apart_uncovered (r ∷ rs) all c =
        ⊎_elim
        (λ (here : Covers r job).
        let port : r.port ≡ job.port = here.port in
        let high : job.number ≤ r.last = here.high in
        ⊎_elim
        (λ (less : r.port < run.port).
        ⊎_elim
        (λ (more : run.port < job.port). let no : ⊥ = omega arith in no)
        (λ (same : (run.port ≡ job.port) × (run.from ≤ job.number)). let no : ⊥ = omega (arith, same.0) in no)
        begins)
        (λ (near : (r.port ≡ run.port) × (r.last + 1 < run.from)).
        ⊎_elim
        (λ (more : run.port < job.port). let no : ⊥ = omega (arith, near.0) in no)
        (λ (same : (run.port ≡ job.port) × (run.from ≤ job.number)). let no : ⊥ = omega (arith, near.1, same.1) in no)
        begins)
        (All-head (λ x. LiesApart x run) r rs all))
        (λ (behind : IsCovered rs job). apart_uncovered rs (All-tail (λ x. LiesApart x run) r rs all) behind)
        c

module _ (runs : List Run) (job : Job) (place : ℕ) (at : IsPlaceOf runs job place) (apart : EachBefore LiesApart runs) where
  in_front : Contains (jobs_of runs) job → IsCovered (take place runs) job
  in_front has =
      ⊎_elim
      (λ (f : IsCovered (take place runs) job). f)
      (λ (b : IsCovered (drop place runs) job). absurd (uncovered_by_later (drop place runs) job job.number (omega arith) (All-weaker _ (λ r. BeginsAfter r job) (begins_by_false job) (drop place runs) at.back) b))
      (covered_parts (take place runs) (drop place runs) job (subst (λ rs. IsCovered rs job) (sym (take-append-drop place runs)) (contains_covered runs job has)))

  pub found_last : (run : Run) → slice_get (take place runs) (length (take place runs) - 1) ≡ Some run → (covers job run ≡ true → Contains (jobs_of runs) job) × (Contains (jobs_of runs) job → covers job run ≡ true)
  found_last run there =
      let last = last_of (take place runs) run there in
      let gaps = each_front LiesApart (take place runs) (drop place runs) (subst (EachBefore LiesApart) (sym (take-append-drop place runs)) apart) in
      let begin = All-weaker _ (λ r. BeginsBefore r (alone job)) (begins_by_true job) (take place runs) at.front in
      let begins = All-head (λ r. BeginsBefore r (alone job)) run [] (All-back (λ r. BeginsBefore r (alone job)) last.0 (run ∷ []) (subst (All (λ r. BeginsBefore r (alone job))) last.1 begin)) in (
        λ is.
            let here : IsCovered (last.0 ++ run ∷ []) job = covered_back last.0 (run ∷ []) job (inl ((covers_true job run).0 is)) in
            covered_contains runs job (subst (λ rs. IsCovered rs job) (take-append-drop place runs) (covered_front (take place runs) (drop place runs) job (subst (λ rs. IsCovered rs job) (sym last.1) here))),
        λ has. (covers_true job run).1 (covered_last last.0 run job (subst (EachBefore LiesApart) last.1 gaps) begins (subst (λ rs. IsCovered rs job) last.1 (in_front has))),
      )

  pub found_none : slice_get (take place runs) (length (take place runs) - 1) ≡ None → ¬ Contains (jobs_of runs) job
  found_none none has = subst (λ rs. IsCovered rs job) (no_last (take place runs) none) (in_front has)

-- no run, no job
pub no_jobs : (runs : List Run) → All IsFilled runs → jobs_of runs ≡ [] → length runs ≡ 0
no_jobs [] filled none = refl
no_jobs (run ∷ runs) filled none =
    let full = All-head IsFilled run runs filled in
    let first : Job = record { port = run.port; number = run.from } in
    let has = covered_contains (run ∷ runs) first (inl (record { port = refl; low = omega arith; high = full.not_empty })) in
    let less : has.0 < 0 = subst (λ js. has.0 < length js) none has.1 in
    absurd (omega arith)

-- jobs in another order stand there as often
pub counts_permuted : (xs ys : List Job) (job : Job) → IsPermutation xs ys → count_of job ys ≡ count_of job xs
counts_permuted xs ys job permuted = sum_by-IsPermutation (λ other. cond ((eqb other.port job.port) && (eqb other.number job.number)) 1 0) xs ys permuted
