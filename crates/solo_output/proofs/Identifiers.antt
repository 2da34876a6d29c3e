-- The least identifier that is free, and what is left without an entry.
use Rattle.std.proofs.Common.{◌≡◌, ◌≢◌, ℕ, zero, suc, ◌+◌, ◌-◌, ◌<◌, ◌≤◌, ◌==◌, ◌||◌, true, false, not, cond, List, [], ◌∷◌, map, length, get_or, Contains, sym, ap, ◌∙◌, subst, ⊎_elim, arith, eq-eqb, ne_eqb}
use Rattle.std.specs.List.{list_any}
use Rattle.std.proofs.lemmas.Bool.{both_ways, cases_eq, cond_both}
use Rattle.std.proofs.lemmas.List.Elements.{Contains-get_or}
use Rattle.std.proofs.lemmas.List.Folds.{list_any_at, list_any_none}
use Rattle.dispatch_core.specs.declared.event.Job.{Job}
use Rattle.dispatch_core.specs.JobRuns.{count_of}
use Rattle.dispatch_core.proofs.JobLists.{count_of-cons}
use Rattle.group_jobs.specs.Stamps.{Held, job_of}
use Rattle.member_window.specs.Identifiers.{identifiers, entries_without, AreDistinct, IsLeastFree}
use Rattle.member_window.proofs.Lists.{pigeonhole, contains_here, contains_there, contains_cons_cases, contains_nil, contains_identifier, without_absent}
use Rattle.solo_output.specs.HandOuts.{free_from, least_free}

-- the one list has a job once more than the other
abbrev pub HasMore : Job → List Job → List Job → Type 0
HasMore job more less = (other : Job) → count_of other more ≡ count_of other (job ∷ []) + count_of other less

among : (used : List ℕ) (k : ℕ) → Contains used k → list_any (λ other. other == k) used ≡ true
among used k c = list_any_at (λ other. other == k) used c.0 k c.1 (eq-eqb (get_or used c.0 k) k c.2)

not_among : (used : List ℕ) (k : ℕ) → ¬ Contains used k → list_any (λ other. other == k) used ≡ false
not_among used k absent =
    list_any_none (λ other. other == k) used (λ i d less. ne_eqb (get_or used i d) k (λ e. absent (subst (λ (x : ℕ). Contains used x) e (Contains-get_or used i d less))))

free_is : (more k : ℕ) (used : List ℕ) (identifier : ℕ) → IsLeastFree used identifier → 1 ≤ k → k ≤ identifier → identifier ≤ k + more → free_from more k used ≡ identifier
free_is zero k used identifier least some low high = omega arith
free_is (suc more) k used identifier least some low high =
    ⊎_elim
    (λ (is : k ≡ identifier).
    ap (λ b. cond b (free_from more (k + 1) used) k) (not_among used k (λ c. least.free (subst (λ (x : ℕ). Contains used x) is c))) ∙ is)
    (λ (other : k ≢ identifier).
    let less : k < identifier = omega arith in
    ap (λ b. cond b (free_from more (k + 1) used) k) (among used k (least.least k some less))
    ∙ free_is more (k + 1) used identifier least (omega arith) (omega arith) (omega arith))
    (cases_eq k identifier)

pub least_is : (used : List ℕ) (identifier : ℕ) → IsLeastFree used identifier → least_free used ≡ identifier
least_is used identifier least =
    let not_zero : 1 ≤ identifier = least.not_zero in
    let few : identifier - 1 ≤ length used = pigeonhole (identifier - 1) used (λ k low high. least.least k low (omega arith)) in
    free_is (length used) 1 used identifier least (omega arith) least.not_zero (omega arith)

-- and it is the least that is free
among_of : (used : List ℕ) (k : ℕ) → list_any (λ other. other == k) used ≡ true → Contains used k
among_of [] k some = absurd cc
among_of (own ∷ used) k some =
    ⊎_elim
    (λ (is : own ≡ k). subst (λ (x : ℕ). Contains (own ∷ used) x) is (contains_here own used))
    (λ (other : own ≢ k). contains_there own used k (among_of used k (sym (ap (λ b. b || list_any (λ j. j == k) used) (ne_eqb own k other)) ∙ some)))
    (cases_eq own k)

-- every number below is used, and they are too few to use all that are looked at
found_from : (more k : ℕ) (used : List ℕ) → 1 ≤ k → ((smaller : ℕ) → 1 ≤ smaller → smaller < k → Contains used smaller) → length used < k + more → IsLeastFree used (free_from more k used)
found_from zero k used some below few =
    record {
      not_zero = some;
      free = λ there. absurd (omega (arith, pigeonhole k used (λ j low high. up_to j low high there), few));
      least = below;
    }
  where
    up_to : (j : ℕ) → 1 ≤ j → j ≤ k → Contains used k → Contains used j
    up_to j low high there =
        ⊎_elim (λ (is : j ≡ k). subst (λ (x : ℕ). Contains used x) (sym is) there) (λ (other : j ≢ k). below j low (omega (arith, high, other))) (cases_eq j k)
found_from (suc more) k used some below few =
    cond_both (list_any (λ other. other == k) used) (free_from more (k + 1) used) k (IsLeastFree used)
    (λ taken. found_from more (k + 1) used (omega arith) (λ j low high. up_to j low high (among_of used k taken)) (omega arith))
    (λ absent. record { not_zero = some; free = λ there. both_ways _ absent (among used k there); least = below })
  where
    up_to : (j : ℕ) → 1 ≤ j → j < k + 1 → Contains used k → Contains used j
    up_to j low high there =
        ⊎_elim (λ (is : j ≡ k). subst (λ (x : ℕ). Contains used x) (sym is) there) (λ (other : j ≢ k). below j low (omega (arith, high, other))) (cases_eq j k)

pub is_least : (used : List ℕ) → IsLeastFree used (least_free used)
is_least used = found_from (length used) 1 used (omega arith) (λ j low high. absurd (omega (arith, low, high))) (omega arith)

-- it is one more than they are at most
pub least_small : (used : List ℕ) → least_free used ≤ length used + 1
least_small used =
    let least = is_least used in
    omega (arith, least.not_zero, pigeonhole (least_free used - 1) used (λ k low high. least.least k low (omega (arith, high, least.not_zero))))

-- the jobs of entries
abbrev pub jobs_of : List (ℕ × Held) → List Job
jobs_of entries = map (λ entry. job_of entry.1.stamp) entries

-- without an entry, its job is there once less
pub without_more : (entries : List (ℕ × Held)) (identifier : ℕ) (envelope : Held) → AreDistinct (identifiers entries) → Contains entries (identifier, envelope)
    → HasMore (job_of envelope.stamp) (jobs_of entries) (jobs_of (entries_without identifier entries))
without_more [] identifier envelope distinct there other = absurd (contains_nil (identifier, envelope) there)
without_more (entry ∷ entries) identifier envelope distinct there other =
    let kept = λ (b : Rattle.std.proofs.Common.Bool). cond (not b) (entry ∷ entries_without identifier entries) (entries_without identifier entries) in
    let first = count_of-cons other (job_of entry.1.stamp) (jobs_of entries) in
    ⊎_elim
    (λ (is : entry ≡ (identifier, envelope)).
    let number : entry.0 ≡ identifier = ap (λ (e : ℕ × Held). e.0) is in
    let absent = without_absent identifier entries (λ c. distinct.0 (subst (λ (x : ℕ). Contains (identifiers entries) x) (sym number) c)) in
    let left : count_of other (jobs_of (entries_without identifier (entry ∷ entries))) ≡ count_of other (jobs_of entries) =
    ap (λ b. count_of other (jobs_of (kept b))) (eq-eqb entry.0 identifier number) ∙ ap (λ (l : List (ℕ × Held)). count_of other (jobs_of l)) absent in
    let job : count_of other (job_of entry.1.stamp ∷ []) ≡ count_of other (job_of envelope.stamp ∷ []) = ap (λ (e : ℕ × Held). count_of other (job_of e.1.stamp ∷ [])) is in
    omega (arith, first, left, job))
    (λ (later : Contains entries (identifier, envelope)).
    let differs : entry.0 ≢ identifier = λ e. distinct.0 (subst (λ (x : ℕ). Contains (identifiers entries) x) (sym e) (contains_identifier entries identifier envelope later)) in
    let left : count_of other (jobs_of (entries_without identifier (entry ∷ entries))) ≡ count_of other (job_of entry.1.stamp ∷ jobs_of (entries_without identifier entries)) =
    ap (λ b. count_of other (jobs_of (kept b))) (ne_eqb entry.0 identifier differs) in
    let rest = without_more entries identifier envelope distinct.1 later other in
    omega (arith, first, left, count_of-cons other (job_of entry.1.stamp) (jobs_of (entries_without identifier entries)), rest))
    (contains_cons_cases entry entries (identifier, envelope) there)
