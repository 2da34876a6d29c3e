-- Each accepted job has one spot, on which a report and the places agree.
use Rattle.std.proofs.Common.{◌≡◌, ℕ, ◌+◌, ◌≤◌, Bool, true, false, ltb, List, Contains, Option, Some, None, refl, arith}
use Rattle.std.proofs.lemmas.Bool.{ltb-true, ltb-false}
use Rattle.dispatch_core.specs.declared.event.Job.{Job}
use Rattle.dispatch_core.specs.declared.event.Spot.{Spot}
use Rattle.dispatch_core.specs.declared.event.Spot.TheVariants.{Queued, Held, Acked, Refused, Discarded, Returned}
use Rattle.dispatch_core.specs.JobRuns.{count_of}
use Rattle.group_jobs.specs.declared.fate.Fate.{Fate}
use Rattle.group_jobs.specs.declared.fate.Fate.TheVariants as fate
use Rattle.group_jobs.specs.declared.report.Report.{Report}
use Rattle.group_jobs.specs.Settled.{settled_as}
use Rattle.group_jobs.specs.Reports.{times_accepted}
use Rattle.group_jobs.specs.Balance.{Account, AddsUp}
use Rattle.group_jobs.specs.Endings.{AreOrderly}
use Rattle.group_jobs.specs.Spots.{times_queued, times_out, times_returned, times_settled, times_out_with, times_settled_by}
use Rattle.group_jobs.proofs.Sums.{one_fate}
use Rattle.group_jobs.proofs.Members.{le_sum, positive, at_one}

-- the lists say that the job is at this spot
pub record Agree (accounts : List Account) (report : Report) (job : Job) (spot : Option Spot) : Type 0 where
  pub settled : (fate : Fate) → count_of job (settled_as fate report.settled) ≡ times_settled fate spot
  pub held : count_of job report.held.items ≡ times_out spot
  pub queued : count_of job report.queued.items ≡ times_queued spot
  pub returned : count_of job report.returned.items ≡ times_returned spot
  pub out_with : (a : Account) → Contains accounts a → count_of job a.out ≡ times_out_with a.place spot
  pub settled_by : (a : Account) → Contains accounts a → (fate : Fate) → a.settled fate job ≡ times_settled_by a.place fate spot

module _ (accounts : List Account) (report : Report) (adds : AddsUp accounts report) (orderly : AreOrderly accounts report) (job : Job) where
  acked : ℕ
  acked = count_of job (settled_as fate.Acknowledged report.settled)

  refused : ℕ
  refused = count_of job (settled_as fate.Refused report.settled)

  discarded : ℕ
  discarded = count_of job (settled_as fate.Discarded report.settled)

  total : acked + refused + discarded + count_of job report.held.items + count_of job report.queued.items + count_of job report.returned.items ≡ times_accepted report.accepted.items job
  unfolding acked refused discarded
  total = omega (arith, one_fate accounts report adds job)

  -- what the report does not have no place has
  none_out : count_of job report.held.items ≡ 0 → (a : Account) → Contains accounts a → count_of job a.out ≡ 0
  none_out none a here = omega (arith, none, adds.held job, le_sum (λ (b : Account). count_of job b.out) accounts a here)

  none_acked : acked ≡ 0 → (a : Account) → Contains accounts a → a.settled fate.Acknowledged job ≡ 0
  unfolding acked
  none_acked none a here = omega (arith, none, adds.settled fate.Acknowledged job, le_sum (λ (b : Account). b.settled fate.Acknowledged job) accounts a here)

  none_refused : refused ≡ 0 → (a : Account) → Contains accounts a → a.settled fate.Refused job ≡ 0
  unfolding refused
  none_refused none a here = omega (arith, none, adds.settled fate.Refused job, le_sum (λ (b : Account). b.settled fate.Refused job) accounts a here)

  none_discarded : discarded ≡ 0 → (a : Account) → Contains accounts a → a.settled fate.Discarded job ≡ 0
  unfolding discarded
  none_discarded none a here = omega (arith, none, adds.settled fate.Discarded job, le_sum (λ (b : Account). b.settled fate.Discarded job) accounts a here)

  pub nowhere : times_accepted report.accepted.items job ≡ 0 → Agree accounts report job None
  unfolding acked refused discarded
  nowhere zero = record {
    settled = each;
    held = omega (arith, total, zero);
    queued = omega (arith, total, zero);
    returned = omega (arith, total, zero);
    out_with = none_out (omega (arith, total, zero));
    settled_by = by;
  }
    where
      each : (which : Fate) → count_of job (settled_as which report.settled) ≡ times_settled which None
      each fate.Acknowledged = omega (arith, total, zero)
      each fate.Refused = omega (arith, total, zero)
      each fate.Discarded = omega (arith, total, zero)

      by : (a : Account) → Contains accounts a → (which : Fate) → a.settled which job ≡ times_settled_by a.place which None
      by a here fate.Acknowledged = none_acked (omega (arith, total, zero)) a here
      by a here fate.Refused = none_refused (omega (arith, total, zero)) a here
      by a here fate.Discarded = none_discarded (omega (arith, total, zero)) a here

  module _ (one : times_accepted report.accepted.items job ≡ 1) where
    is_queued : 1 ≤ count_of job report.queued.items → Agree accounts report job (Some Queued)
    unfolding acked refused discarded
    is_queued some = record {
      settled = each;
      held = omega (arith, total, one, some);
      queued = omega (arith, total, one, some);
      returned = omega (arith, total, one, some);
      out_with = none_out (omega (arith, total, one, some));
      settled_by = by;
    }
      where
        each : (which : Fate) → count_of job (settled_as which report.settled) ≡ times_settled which (Some Queued)
        each fate.Acknowledged = omega (arith, total, one, some)
        each fate.Refused = omega (arith, total, one, some)
        each fate.Discarded = omega (arith, total, one, some)

        by : (a : Account) → Contains accounts a → (which : Fate) → a.settled which job ≡ times_settled_by a.place which (Some Queued)
        by a here fate.Acknowledged = none_acked (omega (arith, total, one, some)) a here
        by a here fate.Refused = none_refused (omega (arith, total, one, some)) a here
        by a here fate.Discarded = none_discarded (omega (arith, total, one, some)) a here

    is_returned : 1 ≤ count_of job report.returned.items → Agree accounts report job (Some Returned)
    unfolding acked refused discarded
    is_returned some = record {
      settled = each;
      held = omega (arith, total, one, some);
      queued = omega (arith, total, one, some);
      returned = omega (arith, total, one, some);
      out_with = none_out (omega (arith, total, one, some));
      settled_by = by;
    }
      where
        each : (which : Fate) → count_of job (settled_as which report.settled) ≡ times_settled which (Some Returned)
        each fate.Acknowledged = omega (arith, total, one, some)
        each fate.Refused = omega (arith, total, one, some)
        each fate.Discarded = omega (arith, total, one, some)

        by : (a : Account) → Contains accounts a → (which : Fate) → a.settled which job ≡ times_settled_by a.place which (Some Returned)
        by a here fate.Acknowledged = none_acked (omega (arith, total, one, some)) a here
        by a here fate.Refused = none_refused (omega (arith, total, one, some)) a here
        by a here fate.Discarded = none_discarded (omega (arith, total, one, some)) a here

    is_held : (x : Account) → Contains accounts x → 1 ≤ count_of job x.out → Agree accounts report job (Some (Held x.place))
    unfolding acked refused discarded
    is_held x there some = record {
      settled = each;
      held = omega (arith, total, one, enough);
      queued = omega (arith, total, one, enough);
      returned = omega (arith, total, one, enough);
      out_with = λ a here. at_one (λ (b : Account). count_of job b.out) accounts orderly.apart x a there some (omega (arith, total, one, enough, adds.held job)) here;
      settled_by = by;
    }
      where
        enough : 1 ≤ count_of job report.held.items
        enough = omega (arith, adds.held job, some, le_sum (λ (b : Account). count_of job b.out) accounts x there)

        each : (which : Fate) → count_of job (settled_as which report.settled) ≡ times_settled which (Some (Held x.place))
        each fate.Acknowledged = omega (arith, total, one, enough)
        each fate.Refused = omega (arith, total, one, enough)
        each fate.Discarded = omega (arith, total, one, enough)

        by : (a : Account) → Contains accounts a → (which : Fate) → a.settled which job ≡ times_settled_by a.place which (Some (Held x.place))
        by a here fate.Acknowledged = none_acked (omega (arith, total, one, enough)) a here
        by a here fate.Refused = none_refused (omega (arith, total, one, enough)) a here
        by a here fate.Discarded = none_discarded (omega (arith, total, one, enough)) a here

    is_acked : (x : Account) → Contains accounts x → 1 ≤ x.settled fate.Acknowledged job → Agree accounts report job (Some (Acked x.place))
    unfolding acked refused discarded
    is_acked x there some = record {
      settled = each;
      held = omega (arith, total, one, enough);
      queued = omega (arith, total, one, enough);
      returned = omega (arith, total, one, enough);
      out_with = none_out (omega (arith, total, one, enough));
      settled_by = by;
    }
      where
        enough : 1 ≤ count_of job (settled_as fate.Acknowledged report.settled)
        enough = omega (arith, adds.settled fate.Acknowledged job, some, le_sum (λ (b : Account). b.settled fate.Acknowledged job) accounts x there)

        each : (which : Fate) → count_of job (settled_as which report.settled) ≡ times_settled which (Some (Acked x.place))
        each fate.Acknowledged = omega (arith, total, one, enough)
        each fate.Refused = omega (arith, total, one, enough)
        each fate.Discarded = omega (arith, total, one, enough)

        by : (a : Account) → Contains accounts a → (which : Fate) → a.settled which job ≡ times_settled_by a.place which (Some (Acked x.place))
        by a here fate.Acknowledged = at_one (λ (b : Account). b.settled fate.Acknowledged job) accounts orderly.apart x a there some (omega (arith, total, one, enough, adds.settled fate.Acknowledged job)) here
        by a here fate.Refused = none_refused (omega (arith, total, one, enough)) a here
        by a here fate.Discarded = none_discarded (omega (arith, total, one, enough)) a here

    is_refused : (x : Account) → Contains accounts x → 1 ≤ x.settled fate.Refused job → Agree accounts report job (Some (Refused x.place))
    unfolding acked refused discarded
    is_refused x there some = record {
      settled = each;
      held = omega (arith, total, one, enough);
      queued = omega (arith, total, one, enough);
      returned = omega (arith, total, one, enough);
      out_with = none_out (omega (arith, total, one, enough));
      settled_by = by;
    }
      where
        enough : 1 ≤ count_of job (settled_as fate.Refused report.settled)
        enough = omega (arith, adds.settled fate.Refused job, some, le_sum (λ (b : Account). b.settled fate.Refused job) accounts x there)

        each : (which : Fate) → count_of job (settled_as which report.settled) ≡ times_settled which (Some (Refused x.place))
        each fate.Acknowledged = omega (arith, total, one, enough)
        each fate.Refused = omega (arith, total, one, enough)
        each fate.Discarded = omega (arith, total, one, enough)

        by : (a : Account) → Contains accounts a → (which : Fate) → a.settled which job ≡ times_settled_by a.place which (Some (Refused x.place))
        by a here fate.Acknowledged = none_acked (omega (arith, total, one, enough)) a here
        by a here fate.Refused = at_one (λ (b : Account). b.settled fate.Refused job) accounts orderly.apart x a there some (omega (arith, total, one, enough, adds.settled fate.Refused job)) here
        by a here fate.Discarded = none_discarded (omega (arith, total, one, enough)) a here

    is_discarded : (x : Account) → Contains accounts x → 1 ≤ x.settled fate.Discarded job → Agree accounts report job (Some (Discarded x.place))
    unfolding acked refused discarded
    is_discarded x there some = record {
      settled = each;
      held = omega (arith, total, one, enough);
      queued = omega (arith, total, one, enough);
      returned = omega (arith, total, one, enough);
      out_with = none_out (omega (arith, total, one, enough));
      settled_by = by;
    }
      where
        enough : 1 ≤ count_of job (settled_as fate.Discarded report.settled)
        enough = omega (arith, adds.settled fate.Discarded job, some, le_sum (λ (b : Account). b.settled fate.Discarded job) accounts x there)

        each : (which : Fate) → count_of job (settled_as which report.settled) ≡ times_settled which (Some (Discarded x.place))
        each fate.Acknowledged = omega (arith, total, one, enough)
        each fate.Refused = omega (arith, total, one, enough)
        each fate.Discarded = omega (arith, total, one, enough)

        by : (a : Account) → Contains accounts a → (which : Fate) → a.settled which job ≡ times_settled_by a.place which (Some (Discarded x.place))
        by a here fate.Acknowledged = none_acked (omega (arith, total, one, enough)) a here
        by a here fate.Refused = none_refused (omega (arith, total, one, enough)) a here
        by a here fate.Discarded = at_one (λ (b : Account). b.settled fate.Discarded job) accounts orderly.apart x a there some (omega (arith, total, one, enough, adds.settled fate.Discarded job)) here

  -- where an accepted job is
  pub somewhere : (spot : Spot) × (times_accepted report.accepted.items job ≡ 1 → Agree accounts report job (Some spot))
  unfolding acked refused discarded
  somewhere = queued_or (ltb 0 (count_of job report.queued.items)) refl
    where
      discarded_or : count_of job report.queued.items ≤ 0 → count_of job report.returned.items ≤ 0 → count_of job report.held.items ≤ 0 → acked ≤ 0 → refused ≤ 0 → (b : Bool) → ltb 0 discarded ≡ b
          → (spot : Spot) × (times_accepted report.accepted.items job ≡ 1 → Agree accounts report job (Some spot))
      discarded_or q r h a f true is =
          let less = ltb-true 0 discarded is in
          let x = positive (λ (b : Account). b.settled fate.Discarded job) accounts (omega (arith, less, adds.settled fate.Discarded job)) in
          (Discarded x.0.place, λ one. is_discarded one x.0 x.1 x.2)
      discarded_or q r h a f false is = let none = ltb-false 0 discarded is in (Queued, λ one. absurd (omega (arith, total, one, none, q, r, h, a, f)))

      refused_or : count_of job report.queued.items ≤ 0 → count_of job report.returned.items ≤ 0 → count_of job report.held.items ≤ 0 → acked ≤ 0 → (b : Bool) → ltb 0 refused ≡ b
          → (spot : Spot) × (times_accepted report.accepted.items job ≡ 1 → Agree accounts report job (Some spot))
      refused_or q r h a true is =
          let less = ltb-true 0 refused is in
          let x = positive (λ (b : Account). b.settled fate.Refused job) accounts (omega (arith, less, adds.settled fate.Refused job)) in
          (Refused x.0.place, λ one. is_refused one x.0 x.1 x.2)
      refused_or q r h a false is = discarded_or q r h a (ltb-false 0 refused is) (ltb 0 discarded) refl

      acked_or : count_of job report.queued.items ≤ 0 → count_of job report.returned.items ≤ 0 → count_of job report.held.items ≤ 0 → (b : Bool) → ltb 0 acked ≡ b
          → (spot : Spot) × (times_accepted report.accepted.items job ≡ 1 → Agree accounts report job (Some spot))
      acked_or q r h true is =
          let less = ltb-true 0 acked is in
          let x = positive (λ (b : Account). b.settled fate.Acknowledged job) accounts (omega (arith, less, adds.settled fate.Acknowledged job)) in
          (Acked x.0.place, λ one. is_acked one x.0 x.1 x.2)
      acked_or q r h false is = refused_or q r h (ltb-false 0 acked is) (ltb 0 refused) refl

      held_or : count_of job report.queued.items ≤ 0 → count_of job report.returned.items ≤ 0 → (b : Bool) → ltb 0 (count_of job report.held.items) ≡ b
          → (spot : Spot) × (times_accepted report.accepted.items job ≡ 1 → Agree accounts report job (Some spot))
      held_or q r true is =
          let less = ltb-true 0 (count_of job report.held.items) is in
          let x = positive (λ (b : Account). count_of job b.out) accounts (omega (arith, less, adds.held job)) in
          (Held x.0.place, λ one. is_held one x.0 x.1 x.2)
      held_or q r false is = acked_or q r (ltb-false 0 (count_of job report.held.items) is) (ltb 0 acked) refl

      returned_or : count_of job report.queued.items ≤ 0 → (b : Bool) → ltb 0 (count_of job report.returned.items) ≡ b
          → (spot : Spot) × (times_accepted report.accepted.items job ≡ 1 → Agree accounts report job (Some spot))
      returned_or q true is = let less = ltb-true 0 (count_of job report.returned.items) is in (Returned, λ one. is_returned one (omega (arith, less)))
      returned_or q false is = held_or q (ltb-false 0 (count_of job report.returned.items) is) (ltb 0 (count_of job report.held.items)) refl

      queued_or : (b : Bool) → ltb 0 (count_of job report.queued.items) ≡ b → (spot : Spot) × (times_accepted report.accepted.items job ≡ 1 → Agree accounts report job (Some spot))
      queued_or true is = let less = ltb-true 0 (count_of job report.queued.items) is in (Queued, λ one. is_queued one (omega (arith, less)))
      queued_or false is = returned_or (ltb-false 0 (count_of job report.queued.items) is) (ltb 0 (count_of job report.returned.items)) refl
