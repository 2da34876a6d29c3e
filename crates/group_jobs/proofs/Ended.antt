-- The state in which a group ends, and that it is lawful.
use Rattle.std.proofs.Common.{◌≡◌, ◌≢◌, ℕ, zero, suc, ◌+◌, ◌<◌, ◌≤◌, Bool, true, false, cond, List, [], ◌∷◌, length, get_or, slice_get, Contains, Option, Some, None, IsSome, ◌⊎◌, inl, inr, ⊎_elim, eqb, eqb-true, refl, sym, ap, ◌∙◌, subst, arith, lt-ltb, le-ltb}
use Rattle.std.specs.Prelude.{sum_by, ◌&&◌}
use Rattle.std.proofs.lemmas.Bool.{cases_lt}
use Rattle.std.proofs.lemmas.List.Sums.{sum_by-cons}
use Rattle.dispatch_core.specs.declared.event.Job.{Job}
use Rattle.dispatch_core.specs.declared.event.Spot.{Spot}
use Rattle.dispatch_core.specs.declared.event.Spot.TheVariants.{Queued, Held, Acked, Refused, Discarded, Returned}
use Rattle.dispatch_core.specs.GroupState.{GroupState, spot_of, accepted_of, firsts_of}
use Rattle.dispatch_core.specs.JobRuns.{count_of}
use Rattle.dispatch_core.specs.Lawful.{RisesByPort, StandsOnce, HasOneFirst, IsLawful}
use Rattle.dispatch_core.proofs.JobLists.{count_of-cons, count_of_contained}
use Rattle.dispatch_core.proofs.Spots.{same_job, same_parts, some_within, some_below}
use Rattle.group_jobs.specs.declared.report.Report.{Report}
use Rattle.group_jobs.specs.Reports.{times_accepted}
use Rattle.group_jobs.specs.Balance.{Account, AddsUp}
use Rattle.group_jobs.specs.Endings.{AreOrderly, EndsIn}
use Rattle.group_jobs.specs.Spots.{times_queued}
use Rattle.group_jobs.proofs.Members.{there, le_sum, two_le_sum, same_place, positive, firsts_with, find}
use Rattle.group_jobs.proofs.Agreeing.{Agree, nowhere, somewhere}
use Rattle.group_jobs.proofs.Tables.{table, length-table, slice_get-table, get_or-table, slice_get-past_table, get_or-past_table, row, rows, row_at}

queued_if : (spot : Option Spot) → 1 ≤ times_queued spot → spot ≡ Some Queued
queued_if None some = absurd (omega arith)
queued_if (Some Queued) some = refl
queued_if (Some (Held place)) some = absurd (omega arith)
queued_if (Some (Acked place)) some = absurd (omega arith)
queued_if (Some (Refused place)) some = absurd (omega arith)
queued_if (Some (Discarded place)) some = absurd (omega arith)
queued_if (Some Returned) some = absurd (omega arith)

once_at_most : (spot : Option Spot) → times_queued spot ≤ 1
once_at_most None = omega arith
once_at_most (Some Queued) = omega arith
once_at_most (Some (Held place)) = omega arith
once_at_most (Some (Acked place)) = omega arith
once_at_most (Some (Refused place)) = omega arith
once_at_most (Some (Discarded place)) = omega arith
once_at_most (Some Returned) = omega arith

not_queued : (spot : Option Spot) → spot ≢ Some Queued → times_queued spot ≡ 0
not_queued spot other = ⊎_elim (λ (some : 0 < times_queued spot). absurd (other (queued_if spot (omega arith)))) (λ (none : times_queued spot ≤ 0). omega arith) (cases_lt 0 (times_queued spot))

-- another job is not counted
none_of : (first job : Job) → first ≢ job → cond ((eqb first.port job.port) && (eqb first.number job.number)) 1 0 + 0 ≡ 0
none_of first job differs = cases (eqb first.port job.port) refl (eqb first.number job.number) refl
  where
    cases : (p : Bool) → eqb first.port job.port ≡ p → (q : Bool) → eqb first.number job.number ≡ q → cond (p && q) 1 0 + 0 ≡ 0
    cases true ports true numbers = absurd (differs (same_parts first job (eqb-true first.port job.port ports) (eqb-true first.number job.number numbers)))
    cases true ports false numbers = omega arith
    cases false ports q numbers = omega arith

other_job : (first job : Job) → first ≢ job → count_of job (first ∷ []) ≡ 0
other_job first job differs = sum_by-cons (λ (other : Job). cond ((eqb other.port job.port) && (eqb other.number job.number)) 1 0) first [] ∙ none_of first job differs

not_in : (first job : Job) (jobs : List Job) → first ≢ job → ¬ Contains jobs job → ¬ Contains (first ∷ jobs) job
not_in first job jobs differs none (zero, less, is) = differs is
not_in first job jobs differs none (suc k, less, is) = none (k, omega arith, is)

-- a job that is counted once stands there once
stands_once : (jobs : List Job) (job : Job) → count_of job jobs ≡ 1 → StandsOnce jobs job
stands_once [] job one = absurd (omega arith)
stands_once (first ∷ jobs) job one =
    ⊎_elim
    (λ (same : first ≡ job).
    let here = count_of_contained (first ∷ []) job (0, omega arith, same) in
    record {
      before = [];
      behind = jobs;
      there = ap (λ j. j ∷ jobs) same;
      not_before = (λ h. let less = h.1 in absurd (omega arith));
      not_behind = (λ h. absurd (omega (arith, one, here, count_of-cons job first jobs, count_of_contained jobs job h)));
    })
    (λ (differs : first ≢ job).
    let rest = stands_once jobs job (omega (arith, one, other_job first job differs, count_of-cons job first jobs)) in
    record {
      before = first ∷ rest.before;
      behind = rest.behind;
      there = ap (λ js. first ∷ js) rest.there;
      not_before = not_in first job rest.before differs rest.not_before;
      not_behind = rest.not_behind;
    })
    (same_job first job)

abbrev one_if : Bool → ℕ
one_if b = cond b 1 0

module _ (accounts : List Account) (report : Report) (adds : AddsUp accounts report) (orderly : AreOrderly accounts report) where
  counts : List ℕ
  counts = report.accepted.items

  spot_for : Job → Spot
  spot_for job = (somewhere accounts report adds orderly job).0

  -- where the group ends
  pub end : GroupState
  end = record { rows = rows spot_for 0 counts; firsts = table (firsts_with accounts) 0 32; closed = true }

  row_of_port : (port : ℕ) → get_or end.rows port [] ≡ row spot_for port (get_or counts port 0)
  unfolding end
  row_of_port port = let e : 0 + port ≡ port = omega arith in row_at spot_for 0 counts port ∙ ap (λ p. row spot_for p (get_or counts port 0)) e

  accepted : (port : ℕ) → accepted_of end port ≡ get_or report.accepted.items port 0
  unfolding counts
  accepted port = ap length (row_of_port port) ∙ length-table (λ number. spot_for (record { port = port; number = number })) 0 (get_or report.accepted.items port 0)

  spot_there : (job : Job) → job.number < get_or report.accepted.items job.port 0 → spot_of end job ≡ Some (spot_for job)
  unfolding counts
  spot_there job less =
      let e : 0 + job.number ≡ job.number = omega arith in
      ap (λ r. slice_get r job.number) (row_of_port job.port)
      ∙ slice_get-table (λ number. spot_for (record { port = job.port; number = number })) 0 (get_or report.accepted.items job.port 0) job.number less
      ∙ ap (λ j. Some (spot_for j)) (same_parts (record { port = job.port; number = 0 + job.number }) job refl e)

  no_spot : (job : Job) → get_or report.accepted.items job.port 0 ≤ job.number → spot_of end job ≡ None
  unfolding counts
  no_spot job most = ap (λ r. slice_get r job.number) (row_of_port job.port)
      ∙ slice_get-past_table (λ number. spot_for (record { port = job.port; number = number })) 0 (get_or report.accepted.items job.port 0) job.number most

  -- all lists agree with the state
  agree : (job : Job) → Agree accounts report job (spot_of end job)
  unfolding spot_for
  agree job =
      ⊎_elim
      (λ (less : job.number < get_or report.accepted.items job.port 0).
      subst (Agree accounts report job) (sym (spot_there job less)) ((somewhere accounts report adds orderly job).1 (ap one_if (lt-ltb job.number (get_or report.accepted.items job.port 0) less))))
      (λ (most : get_or report.accepted.items job.port 0 ≤ job.number).
      subst (Agree accounts report job) (sym (no_spot job most)) (nowhere accounts report adds orderly job (ap one_if (le-ltb job.number (get_or report.accepted.items job.port 0) most))))
      (cases_lt job.number (get_or report.accepted.items job.port 0))

  -- a job has a spot where it was accepted
  is_accepted : (job : Job) → IsSome (spot_of end job) → times_accepted report.accepted.items job ≡ 1
  is_accepted job some =
      let less = some_within (get_or end.rows job.port []) job.number some in
      ap one_if (lt-ltb job.number (get_or report.accepted.items job.port 0) (omega (arith, less, accepted job.port)))

  has_spot : (job : Job) → 1 ≤ times_accepted report.accepted.items job → IsSome (spot_of end job)
  has_spot job one =
      ⊎_elim
      (λ (less : job.number < get_or report.accepted.items job.port 0). some_below (get_or end.rows job.port []) job.number (omega (arith, less, accepted job.port)))
      (λ (most : get_or report.accepted.items job.port 0 ≤ job.number). absurd (omega (arith, one, ap one_if (le-ltb job.number (get_or report.accepted.items job.port 0) most))))
      (cases_lt job.number (get_or report.accepted.items job.port 0))

  accepted_once : (job : Job) → times_accepted report.accepted.items job ≤ 1
  accepted_once job =
      ⊎_elim
      (λ (less : job.number < get_or report.accepted.items job.port 0). omega (arith, ap one_if (lt-ltb job.number (get_or report.accepted.items job.port 0) less)))
      (λ (most : get_or report.accepted.items job.port 0 ≤ job.number). omega (arith, ap one_if (le-ltb job.number (get_or report.accepted.items job.port 0) most)))
      (cases_lt job.number (get_or report.accepted.items job.port 0))

  -- a member's first hand-outs are those of the place of its number
  listed : (member : ℕ) → ((a : Account) × Contains accounts a × (a.place ≡ member) × (firsts_of end member ≡ a.firsts)) ⊎ ((firsts_of end member ≡ []) × ((a : Account) → Contains accounts a → a.place ≡ member → ⊥))
  unfolding end
  listed member =
      ⊎_elim
      (λ (less : member < 32).
      let e : 0 + member ≡ member = omega arith in
      let is = get_or-table (firsts_with accounts) 0 32 member [] less ∙ ap (firsts_with accounts) e in
      ⊎_elim
      (λ (h : (a : Account) × Contains accounts a × (a.place ≡ member) × (firsts_with accounts member ≡ a.firsts)). inl (h.0, h.1, h.2, is ∙ h.3))
      (λ (h : (firsts_with accounts member ≡ []) × ((a : Account) → Contains accounts a → a.place ≡ member → ⊥)). inr (is ∙ h.0, h.1))
      (find accounts member))
      (λ (most : 32 ≤ member).
      inr (get_or-past_table (firsts_with accounts) 0 32 member [] most, λ a here same. let few = there (λ (b : Account). b.place < 32) accounts a orderly.numbered here in absurd (omega arith)))
      (cases_lt member 32)

  first_hand_outs : (a : Account) → Contains accounts a → firsts_of end a.place ≡ a.firsts
  first_hand_outs a here =
      ⊎_elim
      (λ (h : (b : Account) × Contains accounts b × (b.place ≡ a.place) × (firsts_of end a.place ≡ b.firsts)). h.3 ∙ ap (λ (b : Account). b.firsts) (same_place accounts a.place h.0 a (orderly.apart a.place) h.1 here h.2 refl))
      (λ (h : (firsts_of end a.place ≡ []) × ((b : Account) → Contains accounts b → b.place ≡ a.place → ⊥)). absurd (h.1 a here refl))
      (listed a.place)

  no_other : (member : ℕ) → ((a : Account) → Contains accounts a → ¬ (a.place ≡ member)) → firsts_of end member ≡ []
  no_other member none =
      ⊎_elim
      (λ (h : (b : Account) × Contains accounts b × (b.place ≡ member) × (firsts_of end member ≡ b.firsts)). absurd (none h.0 h.1 h.2))
      (λ (h : (firsts_of end member ≡ []) × ((b : Account) → Contains accounts b → b.place ≡ member → ⊥)). h.0)
      (listed member)

  pub ends_in : EndsIn accounts report end
  ends_in = record {
    accepted = accepted;
    firsts = first_hand_outs;
    no_other = no_other;
    settled = λ fate job. (agree job).settled fate;
    held = λ job. (agree job).held;
    queued = λ job. (agree job).queued;
    returned = λ job. (agree job).returned;
    out_with = λ a here job. (agree job).out_with a here;
    settled_by = λ a here fate job. (agree job).settled_by a here fate;
  }

  rising : (member : ℕ) → RisesByPort (firsts_of end member)
  rising member =
      ⊎_elim
      (λ (h : (b : Account) × Contains accounts b × (b.place ≡ member) × (firsts_of end member ≡ b.firsts)). subst RisesByPort (sym h.3) (there (λ (b : Account). RisesByPort b.firsts) accounts h.0 orderly.rising h.1))
      (λ (h : (firsts_of end member ≡ []) × ((b : Account) → Contains accounts b → b.place ≡ member → ⊥)). subst RisesByPort (sym h.0) (λ i j d less within. absurd (omega arith)))
      (listed member)

  suffix : (older younger : Job) → older.port ≡ younger.port → older.number ≤ younger.number → spot_of end older ≡ Some Queued → IsSome (spot_of end younger) → spot_of end younger ≡ Some Queued
  suffix older younger port later is some =
      let old : count_of older report.queued.items ≡ 1 = (agree older).queued ∙ ap times_queued is in
      queued_if (spot_of end younger) (omega (arith, orderly.youngest older younger port later (omega (arith, old)), is_accepted younger some, (agree younger).queued))

  -- what a place was the first to be handed was accepted, and is not queued
  handed : (a : Account) (job : Job) → Contains accounts a → Contains a.firsts job → IsSome (spot_of end job) × (spot_of end job ≢ Some Queued)
  handed a job here in_it =
      let some = count_of_contained a.firsts job in_it in
      let most = le_sum (λ (b : Account). count_of job b.firsts) accounts a here in (
        has_spot job (omega (arith, adds.first job, some, most)),
        λ is. absurd (omega (arith, adds.first job, some, most, accepted_once job, (agree job).queued, ap times_queued is)),
      )

  handed_out : (member : ℕ) (job : Job) → Contains (firsts_of end member) job → IsSome (spot_of end job) × (spot_of end job ≢ Some Queued)
  handed_out member job here =
      ⊎_elim
      (λ (h : (b : Account) × Contains accounts b × (b.place ≡ member) × (firsts_of end member ≡ b.firsts)). handed h.0 job h.1 (subst (λ jobs. Contains jobs job) h.3 here))
      (λ (h : (firsts_of end member ≡ []) × ((b : Account) → Contains accounts b → b.place ≡ member → ⊥)). let less = (subst (λ jobs. Contains jobs job) h.0 here).1 in absurd (omega arith))
      (listed member)

  one_first : (job : Job) → IsSome (spot_of end job) → spot_of end job ≢ Some Queued → HasOneFirst end job
  one_first job some other =
      let all : sum_by (λ (a : Account). count_of job a.firsts) accounts ≡ 1 = omega (arith, adds.first job, is_accepted job some, (agree job).queued, not_queued (spot_of end job) other) in
      let x = positive (λ (a : Account). count_of job a.firsts) accounts (omega (arith, all)) in
      let is = first_hand_outs x.0 x.1 in
      record {
        member = x.0.place;
        is_member = there (λ (b : Account). b.place < 32) accounts x.0 orderly.numbered x.1;
        once = subst (λ jobs. StandsOnce jobs job) (sym is) (stands_once x.0.firsts job (omega (arith, all, x.2, le_sum (λ (a : Account). count_of job a.firsts) accounts x.0 x.1)));
        no_other = λ member differs here. ⊎_elim
            (λ (h : (b : Account) × Contains accounts b × (b.place ≡ member) × (firsts_of end member ≡ b.firsts)).
            let in_it = count_of_contained h.0.firsts job (subst (λ jobs. Contains jobs job) h.3 here) in
            absurd (omega (arith, all, in_it, x.2, two_le_sum (λ (a : Account). count_of job a.firsts) accounts h.0 x.0 h.1 x.1 (λ same. differs (sym h.2 ∙ same)))))
            (λ (h : (firsts_of end member ≡ []) × ((b : Account) → Contains accounts b → b.place ≡ member → ⊥)). let less = (subst (λ jobs. Contains jobs job) h.0 here).1 in absurd (omega arith))
            (listed member);
      }

  pub lawful : IsLawful end
  lawful = record {
    accepted = λ job. (
      (λ some. some_within (get_or end.rows job.port []) job.number some),
      (λ less. some_below (get_or end.rows job.port []) job.number less),
    );
    rising = rising;
    suffix = suffix;
    handed_out = handed_out;
    one_first = one_first;
  }
