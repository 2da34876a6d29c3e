-- Each place that the desk of a broker had in the end did what the calls of the workers' runs did there, and nothing else.
use Rattle.std.proofs.Common.{◌≡◌, ℕ, ◌+◌, ◌≤◌, zero, suc, Bool, true, false, ◌&&◌, nat_eq, if◌then◌else◌, List, [], ◌∷◌, map, length, slice_get, Option, Some, None, Result, All, refl, sym, ap, subst, ◌∙◌, arith}
use Rattle.std.specs.Prelude.{sum_by}
use Rattle.std.specs.List.{AllByRecursion, AllZip, flat_map}
use Rattle.std.proofs.lemmas.Bool.{eq-eqb}
use Rattle.std.proofs.lemmas.List.Elements.{All-head, All-tail}
use Rattle.std.proofs.lemmas.List.Sums.{sum_by-append, sum_by-cons}
use Rattle.std.proofs.lemmas.Option.{same_Some}
use mathlib.Core.List.{IsPrefix}
use Rattle.mqtt_topic.specs.Names.{Share}
use Rattle.transport.specs.declared.counts.Counts.{Counts}
use Rattle.dispatch_core.specs.JobRuns.{count_of, jobs_of}
use Rattle.group_jobs.specs.declared.report.Report.{Report}
use Rattle.group_jobs.specs.Stamps.{Held}
use Rattle.session_desk.specs.Calls.{Call, TakePlace}
use Rattle.session_desk.specs.Places.{cell_at}
use Rattle.call_history.specs.Callers.{all_parts, first_caller}
use Rattle.call_history.specs.Numbers.{IsEachOnce}
use Rattle.group_queue.specs.Ports.{GroupId, PortState}
use Rattle.group_queue.specs.declared.finish.Unfinished.{Unfinished}
use Rattle.group_queue.specs.Places.{IsNewPlace, PlaceState, jobs_in}
use Rattle.shared_ledger.specs.Giving.{times_in}
use Rattle.broker_groups.specs.Answers.{Sights}
use Rattle.broker_groups.specs.Naming.{AreNewPlacesOf, once_at}
use Rattle.broker_groups.specs.Outs.{HasOut}
use Rattle.broker_groups.proofs.Rows.{All-at}
use Rattle.conn_rules.specs.declared.client_limits.ClientLimits.{ClientLimits}
use Rattle.conn_supply.specs.SupplyCalls.{SupplyCall}
use Rattle.shared_desk.specs.Histories.{TakesEach}
use Rattle.shared_supply.specs.Calls.{Calls}
use Rattle.shared_supply.specs.Endings.{IsAllBehind}
use Rattle.shared_supply.specs.Workers.{Worker}
use Rattle.worker_connections.specs.declared.served.ServedCounts.{ServedCounts}
use Rattle.worker_connections.specs.Chains.{IsWholeRun, Run}
use Rattle.worker_connections.specs.PollerCalls.{PollerCall}
use Rattle.worker_connections.specs.RunCalls.{AreCallsOf}
use Rattle.worker_connections.proofs.RunCalls.{calls_of}
use Rattle.final_report.specs.Brokers.{KeptItsPromisesBehind}
use Rattle.final_report.specs.DeskPlaces.{worth_if, places_in, places_out}
use Rattle.final_report.specs.Messages.{times_first_handed, times_given_back, times_handed_again, times_settled_at}
use Rattle.final_report.proofs.DeskPlaces.{no_place_lost}
use Rattle.final_report.proofs.EachOnce.{sum_each_once}
use Rattle.threaded_broker.specs.Callers.{DeskCallerState, HasPutIn, HasTakenIn}
use Rattle.threaded_broker.specs.Headline.{KeepsTheHeadline, RunsUntilClosed}
use Rattle.threaded_broker.specs.Places.{CameOfCalls, first_handed, given_back, handed_again, in_all, only_at, settled_there}
use Rattle.threaded_broker.proofs.Balance.{AreWithin, Gains, all_in, all_lost, all_out, one_added, own_sum, places_lost, still_within, sum_stays}
use Rattle.threaded_broker.proofs.Measures.{agains_gain, firsts_gain, given_gain, none_at, once_gain, settled_gain}
use Rattle.threaded_broker.proofs.RunBalance.{run_balances}

abbrev slot_of : PlaceState → ℕ
slot_of place = place.group

abbrev number_of : PlaceState → ℕ
number_of place = place.number

-- where the one counts nothing, the other does
none_too : {X : Type 0} (f g : X → ℕ) (xs : List X) → ((x : X) → f x ≡ 0 → g x ≡ 0) → sum_by f xs ≡ 0 → sum_by g xs ≡ 0
none_too f g [] zeros none = refl
none_too f g (x ∷ xs) zeros none =
    let sum = sum_by-cons f x xs in
    let first = zeros x (omega (arith, none, sum)) in
    let rest = none_too f g xs zeros (omega (arith, none, sum)) in
    omega (arith, first, rest, sum_by-cons g x xs)

abbrev times_if : Bool → ℕ → ℕ
times_if here times = if here then times else 0

if_none : (here : Bool) (times : ℕ) → times_if here 1 ≡ 0 → times_if here times ≡ 0
if_none true times none = absurd (omega (arith, none))
if_none false times none = refl

-- a place of another slot or number counts nothing
only_there : (slot number times : ℕ) (place : PlaceState) → once_at slot number place ≡ 0 → only_at slot number place times ≡ 0
only_there slot number times place none = if_none (nat_eq place.group slot && nat_eq place.number number) times none

its_own : (place : PlaceState) → (nat_eq place.group place.group && nat_eq place.number place.number) ≡ true
its_own place = λ i. eq-eqb place.group place.group refl i && eq-eqb place.number place.number refl i

here_once : (place : PlaceState) → once_at place.group place.number place ≡ 1
here_once place = ap (λ here. if here then 1 else 0) (its_own place)

here_all : (times : ℕ) (place : PlaceState) → only_at place.group place.number place times ≡ times
here_all times place = ap (λ here. if here then times else 0) (its_own place)

-- a place that is there counts
at_least : (places : List PlaceState) (k : ℕ) (place : PlaceState) → slice_get places k ≡ Some place → 1 ≤ sum_by (once_at place.group place.number) places
at_least [] k place is = absurd cc
at_least (first ∷ places) zero place is =
    let same : first ≡ place = same_Some first place is in
    let one : once_at place.group place.number first ≡ 1 = ap (once_at place.group place.number) same ∙ here_once place in
    omega (arith, one, sum_by-cons (once_at place.group place.number) first places)
at_least (first ∷ places) (suc k) place is = omega (arith, at_least places k place is, sum_by-cons (once_at place.group place.number) first places)

-- and counts alone, where no other has its slot and number
only_one : (times : PlaceState → ℕ) (places : List PlaceState) (k : ℕ) (place : PlaceState) → slice_get places k ≡ Some place → sum_by (once_at place.group place.number) places ≤ 1
    → sum_by (λ p. only_at place.group place.number p (times p)) places ≡ times place
only_one times [] k place is few = absurd cc
only_one times (first ∷ places) zero place is few =
    let same : first ≡ place = same_Some first place is in
    let one : once_at place.group place.number first ≡ 1 = ap (once_at place.group place.number) same ∙ here_once place in
    let sum = sum_by-cons (once_at place.group place.number) first places in
    let none = none_too (once_at place.group place.number) (λ p. only_at place.group place.number p (times p)) places (λ p. only_there place.group place.number (times p) p) (omega (arith, few, one, sum)) in
    let its : only_at place.group place.number first (times first) ≡ times place = ap (λ p. only_at place.group place.number p (times p)) same ∙ here_all (times place) place in
    omega (arith, none, its, sum_by-cons (λ p. only_at place.group place.number p (times p)) first places)
only_one times (first ∷ places) (suc k) place is few =
    let sum = sum_by-cons (once_at place.group place.number) first places in
    let some = at_least places k place is in
    let none = only_there place.group place.number (times first) first (omega (arith, few, some, sum)) in
    let rest = only_one times places k place is (omega (arith, few, sum)) in
    omega (arith, none, rest, sum_by-cons (λ p. only_at place.group place.number p (times p)) first places)

-- what callers have that another took in
taken_sum : (worth : Call Held PlaceState → ℕ) (callers : List DeskCallerState) (calls : List (Call Held PlaceState)) → AllByRecursion (λ (caller : DeskCallerState). IsPrefix caller.calls calls) callers → AllByRecursion AreWithin callers
    → sum_by (λ number. worth_if worth (slice_get calls number)) (flat_map (λ (caller : DeskCallerState). caller.own) callers) ≡ sum_by (own_sum worth) callers
taken_sum worth [] calls begin within = refl
taken_sum worth (caller ∷ callers) calls begin within =
    let count : List (Call Held PlaceState) → ℕ → ℕ = λ all number. worth_if worth (slice_get all number) in
    let first : sum_by (count calls) caller.own ≡ own_sum worth caller =
    ap (λ all. sum_by (count all) caller.own) (sym begin.0.1) ∙ sum_stays worth caller.calls begin.0.0 caller.own within.0 in
    omega (
      arith,
      first,
      taken_sum worth callers calls begin.1 within.1,
      sum_by-append (count calls) caller.own (flat_map (λ (c : DeskCallerState). c.own) callers),
      sum_by-cons (own_sum worth) caller callers,
    )

-- and with its own
with_taken : (worth : Call Held PlaceState → ℕ) (before after : DeskCallerState) (callers : List DeskCallerState) → HasTakenIn before callers after → AreWithin before → AllByRecursion AreWithin callers
    → own_sum worth after ≡ own_sum worth before + sum_by (own_sum worth) callers
with_taken worth before after callers took within each =
    let count : List (Call Held PlaceState) → ℕ → ℕ = λ all number. worth_if worth (slice_get all number) in
    let first : sum_by (count after.calls) before.own ≡ own_sum worth before =
    ap (λ all. sum_by (count all) before.own) (sym took.before.1) ∙ sum_stays worth before.calls took.before.0 before.own within in
    ap (sum_by (count after.calls)) took.own
    ∙ omega (arith, first, taken_sum worth callers after.calls took.each each, sum_by-append (count after.calls) before.own (flat_map (λ (c : DeskCallerState). c.own) callers))

module _ (measure : PlaceState → ℕ) where
  -- who put places into the desk: those that came back are there no more
  puts : (places : List PlaceState) (old new : DeskCallerState) → TakesEach HasOut slot_of number_of old places new → AreWithin old
      → (all_in measure new ≡ all_in measure old + sum_by measure places) × (all_out measure new + all_lost measure old ≡ all_out measure old + all_lost measure new) × AreWithin new
  puts [] old new same within = (
    omega (arith, ap (all_in measure) same),
    omega (arith, ap (all_out measure) same, ap (all_lost measure) same),
    subst AreWithin (sym same) within,
  )
  puts (place ∷ places) old new (back, between, adds, rest) within =
      let its : Call Held PlaceState = TakePlace place back in
      let more = puts places between new rest (still_within old between its adds within) in (
        omega (arith, more.0, one_added (λ call. sum_by measure (places_in call)) old between its adds within, sum_by-cons measure place places, sum_by-cons measure place []),
        omega (
          arith,
          more.1,
          one_added (λ call. sum_by measure (places_out call)) old between its adds within,
          one_added (λ call. sum_by measure (places_lost call)) old between its adds within,
        ),
        more.2,
      )

  module _ {T : Type 0} (gain : SupplyCall PlaceState → ℕ) (group : ℕ → GroupId) (seen : Sights) (counts : T → Counts) (given accepted : T → Option (List ℕ))
      (gains : (call : SupplyCall PlaceState) (before after : Worker) → Calls group seen before call after → Gains measure gain call) where
    -- all runs of a broker
    runs_balance : (runs : List (Run T)) (calls : List (List (SupplyCall PlaceState))) → AllByRecursion (IsWholeRun group seen counts given accepted) runs → AllZip (AreCallsOf group seen counts given accepted) runs calls
        → (sum_by (all_in measure) (map (λ (run : Run T). run.last.supply.desk) runs) + sum_by (all_lost measure) (map (λ (run : Run T). run.last.supply.desk) runs)
        ≡ sum_by (all_out measure) (map (λ (run : Run T). run.last.supply.desk) runs) + in_all gain calls)
        × AllByRecursion AreWithin (map (λ (run : Run T). run.last.supply.desk) runs)
    runs_balance [] [] whole asked = (refl, tt)
    runs_balance [] (its ∷ calls) whole asked = absurd asked
    runs_balance (run ∷ runs) [] whole asked = absurd asked
    runs_balance (run ∷ runs) (its ∷ calls) whole asked =
        let one = run_balances measure gain group seen gains counts given accepted run its whole.0 asked.0 in
        let rest = runs_balance runs calls whole.1 asked.1 in
        let others : List DeskCallerState = map (λ (r : Run T). r.last.supply.desk) runs in (
          omega (
            arith,
            one.0,
            rest.0,
            sum_by-cons (all_in measure) run.last.supply.desk others,
            sum_by-cons (all_out measure) run.last.supply.desk others,
            sum_by-cons (all_lost measure) run.last.supply.desk others,
            sum_by-cons (λ (cs : List (SupplyCall PlaceState)). sum_by gain cs) its calls,
          ),
          (one.1, rest.1),
        )

    -- what the desk has in the end, with what came back to nobody, is what it had in the beginning, and what the runs' calls made of it
    whole_balance : (before after : DeskCallerState) (fresh places : List PlaceState) (held : List Held) (runs : List (Run T)) (callers : List DeskCallerState) (calls : List (List (SupplyCall PlaceState))) → HasPutIn before fresh
        → callers ≡ map (λ (run : Run T). run.last.supply.desk) runs → HasTakenIn before callers after → IsEachOnce after.own (length after.calls) → IsAllBehind after.calls places held
        → AllByRecursion (IsWholeRun group seen counts given accepted) runs → AllZip (AreCallsOf group seen counts given accepted) runs calls
        → sum_by measure places + all_lost measure after ≡ sum_by measure fresh + in_all gain calls
    whole_balance before after fresh places held runs callers calls put are took once behind whole asked =
        let first = puts fresh first_caller (record before { parts = all_parts }) put tt in
        let all = runs_balance runs calls whole asked in
        let desks : List DeskCallerState = map (λ (run : Run T). run.last.supply.desk) runs in
        let each : AllByRecursion AreWithin callers = subst (AllByRecursion AreWithin) (sym are) all.1 in
        let same : (worth : Call Held PlaceState → ℕ) → sum_by (own_sum worth) callers ≡ sum_by (own_sum worth) desks = λ worth. ap (sum_by (own_sum worth)) are in
        let ins : Call Held PlaceState → ℕ = λ call. sum_by measure (places_in call) in
        let outs : Call Held PlaceState → ℕ = λ call. sum_by measure (places_out call) in
        let losts : Call Held PlaceState → ℕ = λ call. sum_by measure (places_lost call) in
        let kept = no_place_lost (λ (place : PlaceState). cell_at place.group place.number) after.calls behind.books places behind.led.led.made behind.all.places measure in
        omega (
          arith,
          kept,
          first.0,
          first.1,
          all.0,
          same ins,
          same outs,
          same losts,
          with_taken ins before after callers took first.2 each,
          with_taken outs before after callers took first.2 each,
          with_taken losts before after callers took first.2 each,
          sum_each_once ins after.calls after.own once,
          sum_each_once outs after.calls after.own once,
        )

-- new places count nothing
none_new : (group : ℕ → GroupId) (times : PlaceState → ℕ) (places : List PlaceState) → ((place : PlaceState) → IsNewPlace (group place.group) place.number place → times place ≡ 0)
    → All (λ (place : PlaceState). IsNewPlace (group place.group) place.number place) places → sum_by times places ≡ 0
none_new group times [] zeros new = refl
none_new group times (place ∷ places) zeros new =
    let IsNew : PlaceState → Type 0 = λ p. IsNewPlace (group p.group) p.number p in
    omega (arith, zeros place (All-head IsNew place places new), none_new group times places zeros (All-tail IsNew place places new), sum_by-cons times place places)

only_none : (slot number : ℕ) (place : PlaceState) (times : ℕ) → times ≡ 0 → only_at slot number place times ≡ 0
only_none slot number place times none = ap (only_at slot number place) none ∙ none_at slot number place

-- nothing comes back to nobody that counts, where no place does
none_lost : (measure other : PlaceState → ℕ) (caller : DeskCallerState) → ((place : PlaceState) → measure place ≡ 0 → other place ≡ 0) → all_lost measure caller ≡ 0 → all_lost other caller ≡ 0
none_lost measure other caller zeros none =
    none_too (λ number. worth_if (λ call. sum_by measure (places_lost call)) (slice_get caller.calls number)) (λ number. worth_if (λ call. sum_by other (places_lost call)) (slice_get caller.calls number)) caller.own
    (λ number. of_call (slice_get caller.calls number)) none
  where
    of_call : (call : Option (Call Held PlaceState)) → worth_if (λ c. sum_by measure (places_lost c)) call ≡ 0 → worth_if (λ c. sum_by other (places_lost c)) call ≡ 0
    of_call None none = refl
    of_call (Some call) none = none_too measure other (places_lost call) zeros none

module _ {T : Type 0} (group : ℕ → GroupId) (seen : Sights) (counts : T → Counts) (given accepted : T → Option (List ℕ)) (before after : DeskCallerState) (fresh places : List PlaceState) (held : List Held) (runs : List (Run T))
    (callers : List DeskCallerState) (calls : List (List (SupplyCall PlaceState))) (new : AreNewPlacesOf group fresh) (put : HasPutIn before fresh) (are : callers ≡ map (λ (run : Run T). run.last.supply.desk) runs)
    (took : HasTakenIn before callers after) (once : IsEachOnce after.own (length after.calls)) (behind : IsAllBehind after.calls places held) (whole : AllByRecursion (IsWholeRun group seen counts given accepted) runs)
    (asked : AllZip (AreCallsOf group seen counts given accepted) runs calls) where
  balance : (measure : PlaceState → ℕ) (gain : SupplyCall PlaceState → ℕ) → ((call : SupplyCall PlaceState) (old next : Worker) → Calls group seen old call next → Gains measure gain call)
      → sum_by measure places + all_lost measure after ≡ sum_by measure fresh + in_all gain calls
  balance measure gain gains = whole_balance measure gain group seen counts given accepted gains before after fresh places held runs callers calls put are took once behind whole asked

  -- each place is there once, and none of its slot and number was lost
  there_once : (k : ℕ) (place : PlaceState) → slice_get places k ≡ Some place → (sum_by (once_at place.group place.number) places ≤ 1) × (all_lost (once_at place.group place.number) after ≡ 0)
  there_once k place is =
      let all = balance (once_at place.group place.number) (λ call. 0) (once_gain group seen place.group place.number) in
      let few = new.once place.group place.number in
      let some = at_least places k place is in
      let none = no_gain calls in (omega (arith, all, few, none), omega (arith, all, few, some, none))
    where
      no_gain : (all : List (List (SupplyCall PlaceState))) → in_all (λ call. 0) all ≡ 0
      no_gain [] = refl
      no_gain (its ∷ all) = omega (arith, no_gain all, none_in its, sum_by-cons (λ (cs : List (SupplyCall PlaceState)). sum_by (λ call. 0) cs) its all)
        where
          none_in : (its : List (SupplyCall PlaceState)) → sum_by (λ call. 0) its ≡ 0
          none_in [] = refl
          none_in (call ∷ its) = omega (arith, none_in its, sum_by-cons (λ (c : SupplyCall PlaceState). 0) call its)

  -- so a place did what the calls did there
  did : (times : PlaceState → ℕ) (gain : SupplyCall PlaceState → ℕ) (k : ℕ) (place : PlaceState) → slice_get places k ≡ Some place → ((p : PlaceState) → IsNewPlace (group p.group) p.number p → times p ≡ 0)
      → ((call : SupplyCall PlaceState) (old next : Worker) → Calls group seen old call next → Gains (λ p. only_at place.group place.number p (times p)) gain call) → times place ≡ in_all gain calls
  did times gain k place is zeros gains =
      let measure : PlaceState → ℕ = λ p. only_at place.group place.number p (times p) in
      let there = there_once k place is in
      let all = balance measure gain gains in
      let none = none_lost (once_at place.group place.number) measure after (λ p. only_there place.group place.number (times p) p) there.1 in
      let first = none_new group measure fresh (λ p is_new. only_none place.group place.number p (times p) (zeros p is_new)) new.new in
      omega (arith, all, none, first, only_one times places k place is there.0)

  pub each_came : All (CameOfCalls calls) places
  each_came = All-at (CameOfCalls calls) places (λ k place is. record {
    first = λ job. did (times_first_handed job) (first_handed place.group place.number job) k place is (λ p is_new. ap (λ list. count_of job (jobs_in list)) is_new.firsts) (firsts_gain group seen place.group place.number job);
    again = λ job. did (times_handed_again job) (handed_again place.group place.number job) k place is (λ p is_new. ap (λ list. count_of job (jobs_in list)) is_new.agains) (agains_gain group seen place.group place.number job);
    returned = λ job. did (times_given_back job) (given_back place.group place.number job) k place is (λ p is_new. ap (λ list. count_of job (jobs_in list)) is_new.given) (given_gain group seen place.group place.number job);
    settled = λ fate job. did (times_settled_at fate job) (settled_there place.group place.number fate job) k place is
        (λ p is_new.
        let docket = ap (λ list. count_of job (jobs_of list)) (is_new.settled fate) in
        let gave = ap (λ ledgers. times_in ledgers fate job) is_new.gathered in
        omega (arith, docket, gave)) (settled_gain group seen place.group place.number job fate);
  })

module _ {T : Type 0} (group : ℕ → GroupId) (seen : Sights) (counts : T → Counts) (given accepted : T → Option (List ℕ)) where
  -- all runs have their calls
  pub calls_of_all : (runs : List (Run T)) → AllByRecursion (IsWholeRun group seen counts given accepted) runs → (calls : List (List (SupplyCall PlaceState))) × AllZip (AreCallsOf group seen counts given accepted) runs calls
  calls_of_all [] whole = ([], tt)
  calls_of_all (run ∷ runs) whole =
      let its = calls_of group seen counts given accepted run whole.0.is in
      let others = calls_of_all runs whole.1 in
      (its.0 ∷ others.0, (its.1, others.1))

  -- so a run keeps the headline
  pub keeps_headline : {W : Type 0} (workers : ℕ) (limits : ClientLimits) (came : List T) (before after : DeskCallerState) (shares : List Share) (answers : List (Result Report (Unfinished W))) (strangers : List Held)
      (served : List ServedCounts) (poller_calls : List (Option (List (PollerCall T)))) (ports : List (List PortState)) → length ports ≡ workers
      → RunsUntilClosed group seen counts given accepted limits came before after shares ports served poller_calls → IsEachOnce after.own (length after.calls)
      → KeptItsPromisesBehind group after.calls ports answers strangers
      → KeepsTheHeadline group seen counts given accepted workers limits came before after shares answers strangers served poller_calls
  keeps_headline workers limits came before after shares answers strangers served poller_calls ports many run once promises =
      let asked = calls_of_all run.workers.runs run.workers.whole in
      record {
        ports = ports;
        every_worker = many;
        run = run;
        each_call_once = once;
        promises = promises;
        calls = asked.0;
        calls_are = asked.1;
        came_of_calls = each_came group seen counts given accepted before after run.opened.0 promises.0 promises.1 run.workers.runs run.callers asked.0 run.opened.1 run.opened.2 run.workers.callers_are run.taken_in once
            promises.2.ended.had run.workers.whole asked.1;
      }
