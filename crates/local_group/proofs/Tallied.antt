-- One walk over all jobs.
use Rattle.std.proofs.Common.{◌≡◌, ◌≢◌, ℕ, ◌+◌, ◌*◌, ◌<◌, ◌≤◌, ◌⊎◌, ◌&&◌, eqb, cond, List, [], ◌∷◌, Option, Some, None, IsSome, refl, sym, ap, ◌∙◌, subst, inl, inr, ⊎_elim, arith}
use Rattle.std.specs.List.Sorted.{IsPermutation}
use Rattle.std.proofs.lemmas.Bool.{cases_eq, cases_lt}
use Rattle.std.proofs.lemmas.List.Sorted.{sum_by-IsPermutation}
use Rattle.dispatch_core.specs.declared.event.Job.{Job}
use Rattle.dispatch_core.specs.declared.event.Spot.{Spot}
use Rattle.dispatch_core.specs.GroupState.{GroupState, spot_of, accepted_of}
use Rattle.dispatch_core.specs.JobRuns.{count_of, jobs_of}
use Rattle.dispatch_core.specs.Lawful.{IsLawful}
use Rattle.group_jobs.specs.Settled.{settled_as, IsUnsettled}
use Rattle.local_group.specs.declared.report.Tally.{Tally}
use Rattle.local_group.specs.Keeping.{IsRanged}
use Rattle.group_jobs.specs.Spots.{times_out, times_settled, Lists}
use Rattle.local_group.specs.Tallies.{IsBefore, ListsBefore, Tallies, Gains, Counts}
use Rattle.dispatch_core.proofs.JobLists.{count_of-cons}
use Rattle.dispatch_core.proofs.Spots.{same_job}
use Rattle.local_group.proofs.Counts.{count_of-same, count_of-other}

pub gains_one : (job : Job) (xs ys : List Job) → IsPermutation (job ∷ xs) ys → Gains 1 job xs ys
gains_one job xs ys same other =
    let all : count_of other ys ≡ count_of other (job ∷ xs) = sum_by-IsPermutation (λ one. cond ((eqb one.port other.port) && (eqb one.number other.number)) 1 0) (job ∷ xs) ys same in
    omega (arith, all, count_of-cons other job xs)

gains_at : (often : ℕ) (job : Job) (xs ys : List Job) → Gains often job xs ys → count_of job ys ≡ often + count_of job xs
gains_at often job xs ys gains =
    let all : count_of job ys ≡ often * count_of job (job ∷ []) + count_of job xs = gains job in
    let once : often * count_of job (job ∷ []) ≡ often * 1 = ap (λ n. often * n) (count_of-same job) in
    omega arith

gains_beside : (often : ℕ) (job other : Job) (xs ys : List Job) → other ≢ job → Gains often job xs ys → count_of other ys ≡ count_of other xs
gains_beside often job other xs ys differs gains =
    let all : count_of other ys ≡ often * count_of other (job ∷ []) + count_of other xs = gains other in
    let never : often * count_of other (job ∷ []) ≡ often * 0 = ap (λ n. often * n) (count_of-other other job differs) in
    omega arith

-- a job before the next number is before this one, or is this one's
before_or_this : (port number : ℕ) (other : Job) → IsBefore port (number + 1) other → other ≢ record { port = port; number = number } → IsBefore port number other
before_or_this port number other before differs =
    ⊎_elim
    (λ (less : other.port < port). inl less)
    (λ (here : (other.port ≡ port) × (other.number < number + 1)).
    ⊎_elim
    (λ (same : other.number ≡ number). absurd (differs (λ i. record { port = here.0 i; number = same i })))
    (λ (ne : other.number ≢ number). inr (here.0, (let l : other.number < number + 1 = here.1 in omega arith)))
    (cases_eq other.number number))
    before

before_more : (port number : ℕ) (other : Job) → IsBefore port number other → IsBefore port (number + 1) other
before_more port number other before =
    ⊎_elim (λ (less : other.port < port). inl less) (λ (here : (other.port ≡ port) × (other.number < number)). inr (here.0, (let l : other.number < number = here.1 in omega arith))) before

not_before_itself : (port number : ℕ) → IsBefore port number (record { port = port; number = number }) → ⊥
not_before_itself port number before =
    ⊎_elim (λ (less : port < port). omega arith) (λ (here : (port ≡ port) × (number < number)). (let l : number < number = here.1 in omega arith)) before

decide_before : (port number : ℕ) (job : Job) → IsBefore port number job ⊎ (¬ IsBefore port number job)
decide_before port number job =
    ⊎_elim
    (λ (less : job.port < port). inl (inl less))
    (λ (not_less : port ≤ job.port).
    ⊎_elim
    (λ (same : job.port ≡ port).
    ⊎_elim
    (λ (smaller : job.number < number). inl (inr (same, smaller)))
    (λ (greater : number ≤ job.number).
    inr (λ before. ⊎_elim (λ (l : job.port < port). omega arith) (λ (here : (job.port ≡ port) × (job.number < number)). (let l : job.number < number = here.1 in omega arith)) before))
    (cases_lt job.number number))
    (λ (differs : job.port ≢ port).
    inr (λ before. ⊎_elim (λ (l : job.port < port). omega arith) (λ (here : (job.port ≡ port) × (job.number < number)). differs here.0) before))
    (cases_eq job.port port))
    (cases_lt job.port port)

next_port : (port number : ℕ) (job : Job) → IsBefore port number job → IsBefore (port + 1) 0 job
next_port port number job before =
    ⊎_elim (λ (less : job.port < port). inl (omega arith)) (λ (here : (job.port ≡ port) × (job.number < number)). inl (let same : job.port ≡ port = here.0 in omega arith)) before

option_none : (times : Option Spot → ℕ) (spot : Option Spot) → times None ≡ 0 → (IsSome spot → ⊥) → times spot ≡ 0
option_none times None none nowhere = none
option_none times (Some spot) none nowhere = absurd (nowhere refl)

module _ (times : Option Spot → ℕ) (state : GroupState) where
  -- one job more was counted
  pub lists_counted : (port number : ℕ) (xs ys : List Job) → Gains (times (spot_of state (record { port = port; number = number }))) (record { port = port; number = number }) xs ys
      → ListsBefore times state port number xs → ListsBefore times state port (number + 1) ys
  lists_counted port number xs ys gains lists =
      let job : Job = record { port = port; number = number } in
      let often : ℕ = times (spot_of state job) in
      let now : count_of job ys ≡ often = omega (arith, gains_at often job xs ys gains, lists.others job (not_before_itself port number)) in
      record {
        before = λ other before.
            ⊎_elim
            (λ (same : other ≡ job). subst (λ j. count_of j ys ≡ times (spot_of state j)) (sym same) now)
            (λ (differs : other ≢ job). gains_beside often job other xs ys differs gains ∙ lists.before other (before_or_this port number other before differs))
            (same_job other job);
        others = λ other later.
            let differs : other ≢ job = λ same. later (subst (IsBefore port (number + 1)) (sym same) (inr (refl, omega arith))) in
            gains_beside often job other xs ys differs gains ∙ lists.others other (λ before. later (before_more port number other before));
      }

  accepted_before : (port : ℕ) (job : Job) → job.number < accepted_of state job.port → IsBefore (port + 1) 0 job → IsBefore port (accepted_of state port) job
  accepted_before port job within before =
      ⊎_elim
      (λ (less : job.port < port + 1).
      ⊎_elim
      (λ (same : job.port ≡ port). inr (same, subst (λ p. job.number < accepted_of state p) same within))
      (λ (differs : job.port ≢ port). inl (omega arith))
      (cases_eq job.port port))
      (λ (here : (job.port ≡ port + 1) × (job.number < 0)). absurd (let l : job.number < 0 = here.1 in omega arith))
      before

  nowhere_none : (job : Job) → times None ≡ 0 → (IsSome (spot_of state job) → ⊥) → times (spot_of state job) ≡ 0
  nowhere_none job none nowhere = option_none times (spot_of state job) none nowhere

  -- all jobs of a port were counted
  pub lists_port : (port : ℕ) (xs : List Job) → times None ≡ 0 → IsLawful state → ListsBefore times state port (accepted_of state port) xs → ListsBefore times state (port + 1) 0 xs
  lists_port port xs none lawful lists =
      record {
        before = λ job before.
            ⊎_elim
            (λ (inside : IsBefore port (accepted_of state port) job). lists.before job inside)
            (λ (outside : ¬ IsBefore port (accepted_of state port) job).
            lists.others job outside
            ∙ sym (nowhere_none job none
            (λ some. outside (accepted_before port job ((lawful.accepted job).0 some) before))))
            (decide_before port (accepted_of state port) job);
        others = λ job later. lists.others job (λ before. later (next_port port (accepted_of state port) job before));
      }

  -- all ports were counted
  pub lists_all : (xs : List Job) → times None ≡ 0 → IsRanged state → ListsBefore times state 64 0 xs → Lists times state xs
  lists_all xs none ranged lists job =
      ⊎_elim
      (λ (inside : IsBefore 64 0 job). lists.before job inside)
      (λ (outside : ¬ IsBefore 64 0 job). lists.others job outside ∙ sym (nowhere_none job none (λ some. outside (inl (ranged.ports job some)))))
      (decide_before 64 0 job)

-- no job was counted
pub lists_none : (times : Option Spot → ℕ) (state : GroupState) → ListsBefore times state 0 0 []
lists_none times state =
    record {
      before = λ job before. absurd (⊎_elim (λ (less : job.port < 0). omega arith) (λ (here : (job.port ≡ 0) × (job.number < 0)). (let l : job.number < 0 = here.1 in omega arith)) before);
      others = λ job later. refl;
    }

pub tallies_counted : (state : GroupState) (port number : ℕ) (old new : Tally) → Counts (spot_of state (record { port = port; number = number })) (record { port = port; number = number }) old new → Tallies state port number old → Tallies state port (number + 1) new
tallies_counted state port number old new counts tallies =
    record {
      held = lists_counted times_out state port number old.held.items new.held.items counts.held tallies.held;
      settled = λ fate. lists_counted (times_settled fate) state port number (settled_as fate old.settled) (settled_as fate new.settled) (counts.settled fate) (tallies.settled fate);
    }

pub tallies_port : (state : GroupState) (port : ℕ) (old new : Tally) → new.held.items ≡ old.held.items → new.settled ≡ old.settled → IsLawful state → Tallies state port (accepted_of state port) old → Tallies state (port + 1) 0 new
tallies_port state port old new held settled lawful tallies =
    record {
      held = subst (ListsBefore times_out state (port + 1) 0) (sym held) (lists_port times_out state port old.held.items refl lawful tallies.held);
      settled = λ fate. subst (λ ledger. ListsBefore (times_settled fate) state (port + 1) 0 (settled_as fate ledger)) (sym settled)
          (lists_port (times_settled fate) state port (settled_as fate old.settled) refl lawful (tallies.settled fate));
    }

pub tallies_none : (state : GroupState) (tally : Tally) → tally.held.items ≡ [] → IsUnsettled tally.settled → Tallies state 0 0 tally
tallies_none state tally held settled =
    record {
      held = subst (ListsBefore times_out state 0 0) (sym held) (lists_none times_out state);
      settled = λ fate. subst (λ runs. ListsBefore (times_settled fate) state 0 0 (jobs_of runs)) (sym (settled fate)) (lists_none (times_settled fate) state);
    }
