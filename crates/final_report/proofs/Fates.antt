-- What `finish` of a group says, as promises: how often each message was first handed out, its one fate, and that it is for good.
use Rattle.std.proofs.Common.{◌≡◌, ◌≢◌, ℕ, ◌≤◌, List, Contains, refl, sym, arith}
use Rattle.std.specs.Prelude.{sum_by}
use Rattle.dispatch_core.specs.declared.event.Job.{Job}
use Rattle.dispatch_core.specs.JobRuns.{count_of}
use Rattle.group_jobs.specs.declared.fate.Fate.{Fate}
use Rattle.group_jobs.specs.declared.fate.Fate.TheVariants.{Acknowledged, Refused, Discarded}
use Rattle.group_jobs.specs.declared.report.Report.{Report}
use Rattle.group_jobs.specs.Reports.{fates_of, times_accepted}
use Rattle.group_jobs.specs.Settled.{fates, settled_as}
use Rattle.group_jobs.specs.Stamps.{Held}
use Rattle.group_queue.specs.Ports.{GroupId, PortState}
use Rattle.group_queue.specs.Places.{PlaceState}
use Rattle.group_queue.specs.Ends.{Reports}
use Rattle.final_report.specs.Messages.{times_accepted_by, times_settled_at, times_out_at}
use Rattle.final_report.specs.Promises.{IsFirstHandedOnce, WentToNobodyElse, EndsAtItsMember, GivesOneFate, TellsWhatHappened}
use Rattle.final_report.proofs.Lists.{contained, both_contained}
use Rattle.final_report.proofs.Sums.{times_accepted-once, accepted_by, accepted_counts, accepted_once, first_or_queued, returned_is, settled_is, out_is, balanced}

-- what holds at one fate, and at each other, holds at each
each_fate : (P : Fate → Type 0) (how : Fate) → P how → ((other : Fate) → other ≢ how → P other) → (fate : Fate) → P fate
each_fate P Acknowledged here there Acknowledged = here
each_fate P Acknowledged here there Refused = there Refused (λ e. cc)
each_fate P Acknowledged here there Discarded = there Discarded (λ e. cc)
each_fate P Refused here there Acknowledged = there Acknowledged (λ e. cc)
each_fate P Refused here there Refused = here
each_fate P Refused here there Discarded = there Discarded (λ e. cc)
each_fate P Discarded here there Acknowledged = there Acknowledged (λ e. cc)
each_fate P Discarded here there Refused = there Refused (λ e. cc)
each_fate P Discarded here there Discarded = here

-- one fate counts no more than all, where it counts once the others count nothing, and the other way round
one_of_all : (f : Fate → ℕ) (how : Fate) → f how ≤ sum_by f fates
one_of_all f Acknowledged = omega arith
one_of_all f Refused = omega arith
one_of_all f Discarded = omega arith

alone : (f : Fate → ℕ) (how : Fate) → 1 ≤ f how → sum_by f fates ≤ 1 → (other : Fate) → other ≢ how → f other ≡ 0
alone f Acknowledged some all Acknowledged differs = absurd (differs refl)
alone f Acknowledged some all Refused differs = omega (arith, some, all)
alone f Acknowledged some all Discarded differs = omega (arith, some, all)
alone f Refused some all Acknowledged differs = omega (arith, some, all)
alone f Refused some all Refused differs = absurd (differs refl)
alone f Refused some all Discarded differs = omega (arith, some, all)
alone f Discarded some all Acknowledged differs = omega (arith, some, all)
alone f Discarded some all Refused differs = omega (arith, some, all)
alone f Discarded some all Discarded differs = absurd (differs refl)

one_alone : (f : Fate → ℕ) (how : Fate) → f how ≡ 1 → ((other : Fate) → other ≢ how → f other ≡ 0) → sum_by f fates ≡ 1
one_alone f Acknowledged one none = omega (arith, one, none Refused (λ e. cc), none Discarded (λ e. cc))
one_alone f Refused one none = omega (arith, one, none Acknowledged (λ e. cc), none Discarded (λ e. cc))
one_alone f Discarded one none = omega (arith, one, none Acknowledged (λ e. cc), none Refused (λ e. cc))

none_at_all : (f : Fate → ℕ) → ((fate : Fate) → f fate ≡ 0) → sum_by f fates ≡ 0
none_at_all f none = omega (arith, none Acknowledged, none Refused, none Discarded)

module _ (group : GroupId) (ports : List PortState) (places : List PlaceState) (held : List Held) (report : Report) (r : Reports group ports places held report)
    (one_fate : (job : Job) → fates_of report job ≡ times_accepted report.accepted.items job) where
  pub first_handed_once : IsFirstHandedOnce ports places held report
  first_handed_once = record {
    at_most_once = (λ posted accepted. omega (arith, first_or_queued group ports places held report r posted.job, accepted_once group ports places held report r posted.job));
    or_queued = (λ posted accepted.
        omega (arith, first_or_queued group ports places held report r posted.job, accepted_once group ports places held report r posted.job, accepted_counts group ports places held report r posted accepted));
    as_accepted = r.carries.as_sent;
  }

  pub tells : TellsWhatHappened ports places held report
  tells = record { accepted = (λ job. sym (accepted_by group ports places held report r job)); settled = settled_is group ports places held report r; out = r.envelopes; returned = returned_is group ports places held report r; again = (λ worth. omega (arith, r.carries.agains worth)) }

  fate_is : (job : Job) → fates_of report job ≡ times_accepted_by ports job
  fate_is job = omega (arith, one_fate job, accepted_by group ports places held report r job)

  pub gives_one_fate : GivesOneFate ports places held report
  gives_one_fate = record {
    one = (λ posted accepted.
        omega (arith, fate_is posted.job, accepted_once group ports places held report r posted.job, accepted_counts group ports places held report r posted accepted));
    no_other = (λ job none. omega (arith, fate_is job, none));
    apart = accepted_once group ports places held report r;
  }

  module _ (how : Fate) (settler : PlaceState) (job : Job) (there : Contains places settler) (settled : 1 ≤ times_settled_at how job settler) where
    at_most : fates_of report job ≤ 1
    at_most = omega (arith, one_fate job, times_accepted-once report.accepted.items job)

    -- how often the report has it under a fate
    has : Fate → ℕ
    has fate = count_of job (settled_as fate report.settled)

    some : 1 ≤ has how
    unfolding has
    some = omega (arith, settled, contained (times_settled_at how job) places settler there, settled_is group ports places held report r how job)

    all : sum_by has fates ≤ 1
    unfolding has
    all = omega (arith, at_most)

    -- it has it so once, and under no other fate, and it is in no other list
    once_there : has how ≡ 1
    once_there = omega (arith, some, all, one_of_all has how)

    not_else : (other : Fate) → other ≢ how → has other ≡ 0
    not_else other differs = alone has how some all other differs

    away : (count_of job report.queued.items ≡ 0) × (count_of job report.returned.items ≡ 0) × (count_of job report.held.items ≡ 0)
    unfolding has
    away = (omega (arith, at_most, some, one_of_all has how), omega (arith, at_most, some, one_of_all has how), omega (arith, at_most, some, one_of_all has how))

    -- whatever place it is, it did not settle the message otherwise, and does not have it out
    not_otherwise : (place : PlaceState) → Contains places place → (other : Fate) → other ≢ how → times_settled_at other job place ≡ 0
    unfolding has
    not_otherwise place at other differs =
        omega (arith, not_else other differs, settled_is group ports places held report r other job, contained (times_settled_at other job) places place at)

    not_out : (place : PlaceState) → Contains places place → times_out_at job place ≡ 0
    not_out place at = let none = away.2 in omega (arith, none, out_is group ports places held report r job, contained (times_out_at job) places place at)

    settled_once : times_settled_at how job settler ≡ 1
    unfolding has
    settled_once = omega (arith, once_there, settled, settled_is group ports places held report r how job, contained (times_settled_at how job) places settler there)

    not_by : (other : PlaceState) → Contains places other → other.number ≢ settler.number → times_settled_at how job other ≡ 0
    unfolding has
    not_by other at ne =
        omega (
          arith,
          once_there,
          settled_once,
          settled_is group ports places held report r how job,
          both_contained (λ (place : PlaceState). place.number) (times_settled_at how job) places other settler at there ne,
        )

    neither : (other : PlaceState) → Contains places other → other.number ≢ settler.number → (fate : Fate) → times_settled_at fate job other ≡ 0
    neither other at ne = each_fate (λ fate. times_settled_at fate job other ≡ 0) how (not_by other at ne) (not_otherwise other at)

    pub went_to_nobody_else : WentToNobodyElse how places report job settler
    unfolding has
    went_to_nobody_else = record {
      once = settled_once;
      this_member =
          omega (
            arith,
            not_out settler there,
            one_alone (λ fate. times_settled_at fate job settler) how settled_once (not_otherwise settler there),
            balanced group ports places held report r settler job there,
          );
      others = (λ other at ne. (
        neither other at ne,
        not_out other at,
        omega (arith, not_out other at, none_at_all (λ fate. times_settled_at fate job other) (neither other at ne), balanced group ports places held report r other job at),
      ));
      none_waits = away;
      again = (let none = away.1 in omega (arith, none, returned_is group ports places held report r job));
      fate = (once_there, not_else);
    }

  pub ends_at_its_member : (how : Fate) → EndsAtItsMember how ports places held report
  ends_at_its_member how = λ settler job there settled. went_to_nobody_else how settler job there settled
