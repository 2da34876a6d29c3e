-- How many jobs of a group have come to which spots, by the events that happened in it.
use Rattle.std.proofs.Common.{◌≡◌, ◌≢◌, ℕ, ◌+◌, false, cond, List, [], ◌∷◌, ◌++◌, length, Option, Some, None, refl, sym, ap, subst, ◌∙◌, ⊎_elim, arith, add-zero, ne_eqb}
use Rattle.std.proofs.lemmas.Option.{slice_get_past, same_Some}
use Rattle.std.proofs.lemmas.List.Sums.{sum_by_push}
use Rattle.dispatch_core.specs.declared.event.Job.{Job}
use Rattle.dispatch_core.specs.declared.event.Event.{Event}
use Rattle.dispatch_core.specs.declared.event.Event.TheVariants.{Accept, First, Ack, Refuse, Discard, Back}
use Rattle.dispatch_core.specs.declared.event.Spot.{Spot}
use Rattle.dispatch_core.specs.declared.event.Spot.TheVariants as spot
use Rattle.dispatch_core.specs.GroupState.{GroupState, spot_of, row_of}
use Rattle.dispatch_core.specs.Step.{Moves, next_job}
use Rattle.dispatch_core.specs.History.{IsRun}
use Rattle.dispatch_core.specs.Mentions.{is_accept, accepts_of}
use Rattle.dispatch_core.proofs.Spots.{same_job}
use Rattle.dispatch_core.proofs.JobLists.{count_of-cons, count_of-append}
use Rattle.group_jobs.specs.declared.fate.Fate.TheVariants.{Acknowledged, Refused, Discarded}
use Rattle.group_jobs.specs.Spots.{Lists, times_out, times_settled}
use Rattle.local_group.specs.Groups.{Group, Adds, IsFresh}
use Rattle.local_group.proofs.Spots.{lists_more, lists_less, lists_same}
use Rattle.local_group.proofs.Steps.{goes_on}
use Rattle.solo_output.proofs.Identifiers.{HasMore}

-- so many jobs are at these spots
pub record Counted (times : Option Spot → ℕ) (state : GroupState) (many : ℕ) : Type 0 where
  pub jobs : List Job
  pub lists : Lists times state jobs
  pub long : length jobs ≡ many

module _ (times : Option Spot → ℕ) (old new : GroupState) (job : Job) (at : Spot) (moves : Moves old job at new) (many : ℕ) (counted : Counted times old many) where
  counted_more : times (spot_of old job) ≡ 0 → times (Some at) ≡ 1 → Counted times new (many + 1)
  counted_more was is =
      let long = counted.long in
      record {
        jobs = job ∷ counted.jobs;
        lists = lists_more times old new job at moves counted.jobs (job ∷ counted.jobs) was is (λ other. count_of-cons other job counted.jobs) counted.lists;
        long = omega arith;
      }

  counted_same : times (spot_of old job) ≡ 0 → times (Some at) ≡ 0 → Counted times new many
  counted_same was is = record { jobs = counted.jobs; lists = lists_same times old new job at moves counted.jobs was is counted.lists; long = counted.long }

-- whatever is out is out at place 0
abbrev pub AreAtFirst : GroupState → Type 0
AreAtFirst state = (job : Job) (place : ℕ) → spot_of state job ≡ Some (spot.Held place) → place ≡ 0

first_kept : (old new : GroupState) (job : Job) (at : Spot) → Moves old job at new → ((place : ℕ) → at ≡ spot.Held place → place ≡ 0) → AreAtFirst old → AreAtFirst new
first_kept old new job at moves may were other place held =
    ⊎_elim
    (λ (same : other ≡ job). may place (same_Some at (spot.Held place) (sym moves.there ∙ ap (spot_of new) (sym same) ∙ held)))
    (λ (differs : other ≢ job). were other place (sym (moves.others other differs) ∙ held))
    (same_job other job)

-- The events of a group are a run; through port 0 it accepted so many messages, and through no other any; so many are acknowledged, so
-- many refused, so many discarded, and these are out.
pub record IsCounted (accepted acknowledged refused discarded : ℕ) (out : List Job) (group : Group) : Type 0 where
  pub run : IsRun group.events group.state
  pub through : accepts_of group.events 0 ≡ accepted
  pub no_other : (port : ℕ) → port ≢ 0 → accepts_of group.events port ≡ 0
  pub good : Counted (times_settled Acknowledged) group.state acknowledged
  pub bad : Counted (times_settled Refused) group.state refused
  pub off : Counted (times_settled Discarded) group.state discarded
  pub out_are : Lists times_out group.state out
  pub at_first : AreAtFirst group.state

module _ (old new : Group) (accepted acknowledged refused discarded : ℕ) (out : List Job) (counted : IsCounted accepted acknowledged refused discarded out old) where
  ran : (event : Event) → Adds old event new → IsRun new.events new.state
  ran event adds = subst (λ (es : List Event). IsRun es new.state) (sym adds.events) (goes_on old.state new.state old.events event counted.run adds.step)

  grown : (event : Event) (port : ℕ) → Adds old event new → accepts_of new.events port ≡ accepts_of old.events port + cond (is_accept port event) 1 0
  grown event port adds = ap (λ (es : List Event). accepts_of es port) adds.events ∙ sum_by_push (λ e. cond (is_accept port e) 1 0) old.events event

  not_grown : (event : Event) (port : ℕ) → is_accept port event ≡ false → Adds old event new → accepts_of new.events port ≡ accepts_of old.events port
  not_grown event port fails adds = grown event port adds ∙ ap (λ b. accepts_of old.events port + cond b 1 0) fails ∙ add-zero (accepts_of old.events port)

  -- a message is accepted
  pub accepts : Adds old (Accept 0) new → IsCounted (accepted + 1) acknowledged refused discarded out new
  accepts adds =
      let job = next_job old.state 0 in
      let none : spot_of old.state job ≡ None = slice_get_past (row_of old.state 0) (length (row_of old.state 0)) (omega arith) in
      let moves = adds.step.made.0 in
      record {
        run = ran (Accept 0) adds;
        through = grown (Accept 0) 0 adds ∙ ap (λ n. n + 1) counted.through;
        no_other = λ port other. not_grown (Accept 0) port (ne_eqb 0 port (λ e. other (sym e))) adds ∙ counted.no_other port other;
        good = counted_same (times_settled Acknowledged) old.state new.state job spot.Queued moves acknowledged counted.good (ap (times_settled Acknowledged) none) refl;
        bad = counted_same (times_settled Refused) old.state new.state job spot.Queued moves refused counted.bad (ap (times_settled Refused) none) refl;
        off = counted_same (times_settled Discarded) old.state new.state job spot.Queued moves discarded counted.off (ap (times_settled Discarded) none) refl;
        out_are = lists_same times_out old.state new.state job spot.Queued moves out (ap times_out none) refl counted.out_are;
        at_first = first_kept old.state new.state job spot.Queued moves (λ place e. absurd (cc)) counted.at_first;
      }

  -- one is handed out
  pub hands : (job : Job) → Adds old (First 0 job) new → IsCounted accepted acknowledged refused discarded (out ++ job ∷ []) new
  hands job adds =
      let was : spot_of old.state job ≡ Some spot.Queued = adds.step.may.ready.0 in
      let moves = adds.step.made.0 in
      record {
        run = ran (First 0 job) adds;
        through = not_grown (First 0 job) 0 refl adds ∙ counted.through;
        no_other = λ port other. not_grown (First 0 job) port refl adds ∙ counted.no_other port other;
        good = counted_same (times_settled Acknowledged) old.state new.state job (spot.Held 0) moves acknowledged counted.good (ap (times_settled Acknowledged) was) refl;
        bad = counted_same (times_settled Refused) old.state new.state job (spot.Held 0) moves refused counted.bad (ap (times_settled Refused) was) refl;
        off = counted_same (times_settled Discarded) old.state new.state job (spot.Held 0) moves discarded counted.off (ap (times_settled Discarded) was) refl;
        out_are =
            lists_more times_out old.state new.state job (spot.Held 0) moves out (out ++ job ∷ []) (ap times_out was) refl
            (λ other. omega (arith, count_of-append other out (job ∷ []))) counted.out_are;
        at_first = first_kept old.state new.state job (spot.Held 0) moves (λ place e. let h = e in cc) counted.at_first;
      }

  -- one is acknowledged
  pub acknowledges : (place : ℕ) (job : Job) (less : List Job) → HasMore job out less → Adds old (Ack place job) new → IsCounted accepted (acknowledged + 1) refused discarded less new
  acknowledges place job less more adds =
      let was : spot_of old.state job ≡ Some (spot.Held place) = adds.step.may.ready in
      let moves = adds.step.made.0 in
      record {
        run = ran (Ack place job) adds;
        through = not_grown (Ack place job) 0 refl adds ∙ counted.through;
        no_other = λ port other. not_grown (Ack place job) port refl adds ∙ counted.no_other port other;
        good = counted_more (times_settled Acknowledged) old.state new.state job (spot.Acked place) moves acknowledged counted.good (ap (times_settled Acknowledged) was) refl;
        bad = counted_same (times_settled Refused) old.state new.state job (spot.Acked place) moves refused counted.bad (ap (times_settled Refused) was) refl;
        off = counted_same (times_settled Discarded) old.state new.state job (spot.Acked place) moves discarded counted.off (ap (times_settled Discarded) was) refl;
        out_are = lists_less times_out old.state new.state job (spot.Acked place) moves out less (ap times_out was) refl more counted.out_are;
        at_first = first_kept old.state new.state job (spot.Acked place) moves (λ other e. absurd (cc)) counted.at_first;
      }

  -- one is refused
  pub refuses : (place : ℕ) (job : Job) (less : List Job) → HasMore job out less → Adds old (Refuse place job) new → IsCounted accepted acknowledged (refused + 1) discarded less new
  refuses place job less more adds =
      let was : spot_of old.state job ≡ Some (spot.Held place) = adds.step.may.ready in
      let moves = adds.step.made.0 in
      record {
        run = ran (Refuse place job) adds;
        through = not_grown (Refuse place job) 0 refl adds ∙ counted.through;
        no_other = λ port other. not_grown (Refuse place job) port refl adds ∙ counted.no_other port other;
        good = counted_same (times_settled Acknowledged) old.state new.state job (spot.Refused place) moves acknowledged counted.good (ap (times_settled Acknowledged) was) refl;
        bad = counted_more (times_settled Refused) old.state new.state job (spot.Refused place) moves refused counted.bad (ap (times_settled Refused) was) refl;
        off = counted_same (times_settled Discarded) old.state new.state job (spot.Refused place) moves discarded counted.off (ap (times_settled Discarded) was) refl;
        out_are = lists_less times_out old.state new.state job (spot.Refused place) moves out less (ap times_out was) refl more counted.out_are;
        at_first = first_kept old.state new.state job (spot.Refused place) moves (λ other e. absurd (cc)) counted.at_first;
      }

  -- one is discarded
  pub discards : (place : ℕ) (job : Job) (less : List Job) → HasMore job out less → Adds old (Discard place job) new → IsCounted accepted acknowledged refused (discarded + 1) less new
  discards place job less more adds =
      let was : spot_of old.state job ≡ Some (spot.Held place) = adds.step.may.ready in
      let moves = adds.step.made.0 in
      record {
        run = ran (Discard place job) adds;
        through = not_grown (Discard place job) 0 refl adds ∙ counted.through;
        no_other = λ port other. not_grown (Discard place job) port refl adds ∙ counted.no_other port other;
        good = counted_same (times_settled Acknowledged) old.state new.state job (spot.Discarded place) moves acknowledged counted.good (ap (times_settled Acknowledged) was) refl;
        bad = counted_same (times_settled Refused) old.state new.state job (spot.Discarded place) moves refused counted.bad (ap (times_settled Refused) was) refl;
        off = counted_more (times_settled Discarded) old.state new.state job (spot.Discarded place) moves discarded counted.off (ap (times_settled Discarded) was) refl;
        out_are = lists_less times_out old.state new.state job (spot.Discarded place) moves out less (ap times_out was) refl more counted.out_are;
        at_first = first_kept old.state new.state job (spot.Discarded place) moves (λ other e. absurd (cc)) counted.at_first;
      }

  -- one is given back
  pub gives_back : (place : ℕ) (job : Job) (less : List Job) → HasMore job out less → Adds old (Back place job) new → IsCounted accepted acknowledged refused discarded less new
  gives_back place job less more adds =
      let was : spot_of old.state job ≡ Some (spot.Held place) = adds.step.may.ready in
      let moves = adds.step.made.0 in
      record {
        run = ran (Back place job) adds;
        through = not_grown (Back place job) 0 refl adds ∙ counted.through;
        no_other = λ port other. not_grown (Back place job) port refl adds ∙ counted.no_other port other;
        good = counted_same (times_settled Acknowledged) old.state new.state job spot.Returned moves acknowledged counted.good (ap (times_settled Acknowledged) was) refl;
        bad = counted_same (times_settled Refused) old.state new.state job spot.Returned moves refused counted.bad (ap (times_settled Refused) was) refl;
        off = counted_same (times_settled Discarded) old.state new.state job spot.Returned moves discarded counted.off (ap (times_settled Discarded) was) refl;
        out_are = lists_less times_out old.state new.state job spot.Returned moves out less (ap times_out was) refl more counted.out_are;
        at_first = first_kept old.state new.state job spot.Returned moves (λ other e. absurd (cc)) counted.at_first;
      }

none_some : {A : Type 0} {x : A} → ◌≡◌ {A = Option A} None (Some x) → ⊥
none_some e = cc

-- before the first event
pub none_counted : (group : Group) → IsFresh group → IsCounted 0 0 0 0 [] group
none_counted group fresh =
    let none : (times : Option Spot → ℕ) → times None ≡ 0 → Lists times group.state [] = λ times is job. sym (ap times (fresh.state.no_job job) ∙ is) in
    record {
      run = subst (λ (es : List Event). IsRun es group.state) (sym fresh.events) (record { start = group.state; empty = fresh.state; steps = refl });
      through = ap (λ (es : List Event). accepts_of es 0) fresh.events;
      no_other = λ port other. ap (λ (es : List Event). accepts_of es port) fresh.events;
      good = record { jobs = []; lists = none (times_settled Acknowledged) refl; long = refl };
      bad = record { jobs = []; lists = none (times_settled Refused) refl; long = refl };
      off = record { jobs = []; lists = none (times_settled Discarded) refl; long = refl };
      out_are = none times_out refl;
      at_first = λ job place held. absurd (none_some (sym (fresh.state.no_job job) ∙ held));
    }
