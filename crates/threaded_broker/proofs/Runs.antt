-- What holds of each worker's run: it is within the Receive Maximum of its connections, what its ports accepted was published in it, and each deed keeps the sessions.
use Rattle.std.proofs.Common.{◌≡◌, ◌+◌, ◌≤◌, ℕ, zero, suc, List, [], ◌∷◌, length, map, take, Option, refl, sym, ap, subst, ◌∙◌, arith}
use Rattle.std.specs.Prelude.{sum_by}
use Rattle.std.proofs.lemmas.List.Sums.{sum_by-cons}
use Rattle.std.proofs.lemmas.List.{length-map}
use Rattle.std.specs.List.{AllByRecursion, slice_set}
use mathlib.Core.Option.{some}
use lib.ListN.{get_elem?}
use mathlib.Core.List.{IsPrefix}
use Rattle.mqtt_topic.specs.Names.{Share}
use Rattle.mqtt_topic.specs.Routes.{most_routes}
use Rattle.transport.specs.declared.counts.Counts.{Counts}
use Rattle.call_history.specs.Callers.{all_parts}
use Rattle.group_queue.specs.Ports.{GroupId, PortState}
use Rattle.broker_groups.specs.Answers.{Sights}
use Rattle.broker_groups.specs.Naming.{AreNewPlacesOf}
use Rattle.conn_channel.specs.Interleavings.{IsInterleaving}
use Rattle.conn_rules.specs.declared.client_limits.ClientLimits.{ClientLimits}
use Rattle.worker_connections.specs.declared.served.ServedCounts.{ServedCounts}
use Rattle.worker_connections.specs.Arrivals.{ArrivedState}
use Rattle.worker_connections.specs.Chains.{IsWholeRun, KeepsReceiveMaximum, Run}
use Rattle.worker_connections.specs.Numbers.{KeepsNumbers}
use Rattle.worker_connections.specs.PollerCalls.{PollerCall}
use Rattle.worker_connections.specs.Publishing.{IsPublishedBy}
use Rattle.worker_connections.specs.Sessions.{KeepsSessions}
use Rattle.worker_connections.proofs.Publishing.{all_published}
use Rattle.worker_connections.proofs.Numbers.{keeps_numbers}
use Rattle.worker_connections.proofs.Quotas.{within_quota}
use Rattle.worker_connections.proofs.Sessions.{all_sessions}
use Rattle.worker_pool.specs.Accepting.{arrivals}
use Rattle.worker_pool.specs.Pools.{AreServed}
use Rattle.group_queue.specs.Places.{PlaceState}
use Rattle.threaded_broker.specs.Callers.{DeskCallerState, HasPutIn, HasTakenIn}
use Rattle.threaded_broker.specs.Headline.{RunsUntilClosed}
use Rattle.threaded_broker.proofs.Callers.{taken_longer}

-- what holds of a list with one in place of another holds of it, where it holds of the other
each_in : {X : Type 0} (P : List X → Type 0) (lists : List (List X)) (i : ℕ) (list other : List X) → get_elem? lists i ≡ some other → (P list → P other)
    → AllByRecursion P (slice_set lists i list) → AllByRecursion P lists
each_in P [] i list other has on all = tt
each_in P (first ∷ lists) zero list other has on all = let is : first ≡ other = cc in (subst P (sym is) (on all.0), all.1)
each_in P (first ∷ lists) (suc i) list other has on all = (all.0, each_in P lists i list other has on all.1)

none_in : {X : Type 0} (P : X → Type 0) (lists : List (List X)) → ((i : ℕ) (list : List X) → get_elem? lists i ≡ some list → list ≡ []) → AllByRecursion (AllByRecursion P) lists
none_in P [] none = tt
none_in P (first ∷ lists) none = (subst (AllByRecursion P) (sym (none zero first refl)) tt, none_in P lists (λ i list has. none (suc i) list has))

-- what holds of each element of a list holds of those of all lists that make it up
of_each : {X : Type 0} (P : X → Type 0) (all : List X) (lists : List (List X)) → IsInterleaving all lists → AllByRecursion P all → AllByRecursion (AllByRecursion P) lists
of_each P [] lists none holds = none_in P lists none
of_each P (first ∷ rest) lists is holds =
    each_in (AllByRecursion P) lists is.0 is.1 (first ∷ is.1) is.2 (λ others. (holds.0, others)) (of_each P rest (slice_set lists is.0 is.1) is.3 holds.1)

limited : {T : Type 0} (limits : ClientLimits) (came : List T) → AllByRecursion (λ (arrived : ArrivedState T). arrived.limits.max_inflight ≤ limits.max_inflight) (arrivals limits came)
limited limits [] = tt
limited limits (first ∷ came) = (omega arith, limited limits came)

module _ {T : Type 0} (group : ℕ → GroupId) (seen : Sights) (counts : T → Counts) (given accepted : T → Option (List ℕ)) where
  each_run : (limit : ℕ) (runs : List (Run T)) → AllByRecursion (IsWholeRun group seen counts given accepted) runs
      → AllByRecursion (AllByRecursion (λ (arrived : ArrivedState T). arrived.limits.max_inflight ≤ limit)) (map (λ (run : Run T). run.last.received) runs)
      → AllByRecursion (KeepsReceiveMaximum group seen counts given accepted limit) runs
  each_run limit [] whole few = tt
  each_run limit (run ∷ runs) whole few = (within_quota group seen counts given accepted limit run whole.0.is few.0, each_run limit runs whole.1 few.1)

  each_published : (runs : List (Run T)) → AllByRecursion (IsPublishedBy group seen counts given accepted) runs
  each_published [] = tt
  each_published (run ∷ runs) = (all_published group seen counts given accepted run, each_published runs)

  each_numbered : (runs : List (Run T)) → AllByRecursion (IsWholeRun group seen counts given accepted) runs → AllByRecursion (KeepsNumbers group seen counts given accepted) runs
  each_numbered [] whole = tt
  each_numbered (run ∷ runs) whole = (keeps_numbers group seen counts given accepted run whole.0.is, each_numbered runs whole.1)

  each_session : (runs : List (Run T)) → AllByRecursion (IsWholeRun group seen counts given accepted) runs → AllByRecursion (KeepsSessions group seen counts given accepted) runs
  each_session [] whole = tt
  each_session (run ∷ runs) whole = (all_sessions group seen counts given accepted run whole.0.is, each_session runs whole.1)

  -- the parts of so many workers
  parts_of_all : (runs : List (Run T)) → AllByRecursion (λ (run : Run T). run.last.supply.desk.parts ≡ 1) runs
      → sum_by (λ (caller : DeskCallerState). caller.parts) (map (λ (run : Run T). run.last.supply.desk) runs) ≡ length runs
  parts_of_all [] one = refl
  parts_of_all (run ∷ runs) one =
      omega (arith, one.0, parts_of_all runs one.1, sum_by-cons (λ (caller : DeskCallerState). caller.parts) run.last.supply.desk (map (λ (one : Run T). one.last.supply.desk) runs))

  -- a broker that was served kept to it
  pub within : (limits : ClientLimits) (workers : ℕ) (came : List T) (before after : DeskCallerState) (routes shares : List Share) (ports : List (List PortState)) (callers : List DeskCallerState) (served : List ServedCounts)
      (poller_calls : List (Option (List (PollerCall T)))) → shares ≡ take most_routes routes → AreServed group seen counts given accepted (arrivals limits came) routes ports callers served poller_calls
      → (places : List PlaceState) × AreNewPlacesOf group places × HasPutIn before places → HasTakenIn before callers after → length callers ≡ workers → before.parts + workers ≡ all_parts
      → RunsUntilClosed group seen counts given accepted limits came before after shares ports served poller_calls
  within limits workers came before after routes shares ports callers served poller_calls shares_are ran opened taken_in count right =
      let parts = ap (sum_by (λ (caller : DeskCallerState). caller.parts)) ran.callers_are ∙ parts_of_all ran.runs ran.one_part in
      let many = sym (ap length ran.callers_are ∙ length-map ran.runs (λ (run : Run T). run.last.supply.desk)) in
      record {
        routes = routes;
        shares_are = shares_are;
        callers = callers;
        opened = opened;
        workers = ran;
        taken_in = taken_in;
        whole_right = omega (arith, taken_in.parts, parts, many, count, right);
        within_receive_maximum = each_run limits.max_inflight ran.runs ran.whole
            (of_each (λ (arrived : ArrivedState T). arrived.limits.max_inflight ≤ limits.max_inflight) (arrivals limits came) (map (λ (run : Run T). run.last.received) ran.runs) ran.came_to (limited limits came));
        published = each_published ran.runs;
        numbers = each_numbered ran.runs ran.whole;
        sessions = each_session ran.runs ran.whole;
      }

  -- more calls are known of the desk
  pub known_longer : (limits : ClientLimits) (came : List T) (before mid after : DeskCallerState) (shares : List Share) (ports : List (List PortState)) (served : List ServedCounts) (poller_calls : List (Option (List (PollerCall T))))
      → IsPrefix mid.calls after.calls → after ≡ record mid { calls = after.calls } → RunsUntilClosed group seen counts given accepted limits came before mid shares ports served poller_calls
      → RunsUntilClosed group seen counts given accepted limits came before after shares ports served poller_calls
  known_longer limits came before mid after shares ports served poller_calls longer same run = record {
    routes = run.routes;
    shares_are = run.shares_are;
    callers = run.callers;
    opened = run.opened;
    workers = run.workers;
    taken_in = taken_longer before mid after run.callers run.taken_in longer same;
    whole_right = ap (λ (caller : DeskCallerState). caller.parts) same ∙ run.whole_right;
    within_receive_maximum = run.within_receive_maximum;
    published = run.published;
    numbers = run.numbers;
    sessions = run.sessions;
  }
