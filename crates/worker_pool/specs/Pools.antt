-- The run of a pool: what each of its workers did, and which connections came to which of them.
use Rattle.std.specs.Prelude.{◌≡◌, ◌⊎◌, ◌+◌, ◌≤◌, ℕ, List, [], ◌∷◌, map, length, sum_by, Option, ⊤}
use Rattle.std.specs.List.{AllByRecursion, AllZip}
use Rattle.transport.specs.declared.counts.Counts.{Counts}
use Rattle.mqtt_topic.specs.Names.{Share}
use Rattle.group_jobs.specs.Stamps.{Held}
use Rattle.session_desk.specs.Calls.{Call}
use Rattle.call_history.specs.Callers.{CallerState}
use Rattle.group_queue.specs.Ports.{GroupId, PortState}
use Rattle.broker_groups.specs.Answers.{Sights}
use Rattle.group_queue.specs.Places.{PlaceState}
use Rattle.conn_channel.specs.Ends.{ReceiverState, lists_of}
use Rattle.conn_channel.specs.Interleavings.{IsInterleaving}
use Rattle.conn_service.specs.declared.served.Served.{Served}
use Rattle.shared_routes.specs.Known.{AreFirst}
use Rattle.worker_connections.specs.declared.served.ServedCounts.{ServedCounts}
use Rattle.worker_connections.specs.Arrivals.{ArrivedState}
use Rattle.worker_connections.specs.Chains.{IsWholeRun, Run}
use Rattle.worker_connections.specs.Counting.{counts_of, total}
use Rattle.worker_connections.specs.PollerCalls.{PollerCall}
use Rattle.worker_connections.specs.Serving.{AreCounted}

-- how many connections are counted by these workers
abbrev pub total_in : List ServedCounts → ℕ
total_in served = sum_by total served

-- each of so many connections has ended at one of these workers, and is counted there by its ending, once
pub record CountsAll (came : ℕ) (served : List ServedCounts) : Type 0 where
  pub endings : List (List Served)
  pub counted : served ≡ map counts_of endings
  pub all : came ≡ sum_by length endings

-- what each of these ends received has ended, and is counted by the worker that had it
abbrev pub AreAllCounted : {T : Type 0} → List (ReceiverState T) → List ServedCounts → Type 0
AreAllCounted receivers served = AllZip (λ receiver counted. AreCounted (length receiver.received) counted) receivers served

-- the numbers that the connections of a run have: from the first one on, one for each of its cells
abbrev pub numbers_of : {T : Type 0} → Run T → ℕ × ℕ
numbers_of run = (run.last.first, length run.last.cells)

-- no number is among these and among those
abbrev pub IsApart : ℕ × ℕ → ℕ × ℕ → Type 0
IsApart these those = (these.0 + these.1 ≤ those.0) ⊎ (those.0 + those.1 ≤ these.0)

-- no number is among those of two runs
abbrev pub AreApart : {T : Type 0} → List (Run T) → Type 0
AreApart [] = ⊤
AreApart (run ∷ runs) = AllByRecursion (λ other. IsApart (numbers_of run) (numbers_of other)) runs × AreApart runs

module _ {T : Type 0} (group : ℕ → GroupId) (seen : Sights) (counts : T → Counts) (given accepted : T → Option (List ℕ)) where
  -- workers ran to their ends, and gave this back, all in one order: the ports, the callers of the desk, the ends of the channel, the counts, and the calls of their
  -- pollers; what each knew of the routes is a beginning of these shares. No number of a connection is less than this one, or stands with two of them
  pub record HaveEnded (least : ℕ) (ports : List (List PortState)) (callers : List (CallerState (Call Held PlaceState))) (receivers : List (ReceiverState (ArrivedState T))) (served : List ServedCounts)
      (poller_calls : List (Option (List (PollerCall T)))) (routes : List Share) : Type 0 where
    pub runs : List (Run T)
    pub whole : AllByRecursion (IsWholeRun group seen counts given accepted) runs
    pub apart : AreApart runs
    pub least_is : AllByRecursion (λ run. least ≤ run.last.first) runs
    pub ports_are : ports ≡ map (λ run. run.last.supply.ports) runs
    pub callers_are : callers ≡ map (λ run. run.last.supply.desk) runs
    pub received_are : lists_of receivers ≡ map (λ run. run.last.received) runs
    pub served_are : served ≡ map (λ run. run.last.served) runs
    pub poller_calls_are : poller_calls ≡ map (λ run. run.last.poller_calls) runs
    pub one_part : AllByRecursion (λ run. run.last.supply.desk.parts ≡ 1) runs
    pub known : AllByRecursion (λ run. AreFirst run.last.supply.known.shares routes) runs

  -- **The run of a pool**: each worker ran to its end, through ports through which nothing was published before, and as a caller of the desk that had made no call. These
  -- connections came, in this order, each to one of the workers, once (`came_to`). No two workers have a number in common (`apart`). The ports, the callers and the counts are those that the runs ended with, and so are the
  -- calls of the pollers, all in one order; and what each worker knew of the routes is a beginning of these shares, slot by slot
  pub record AreServed (came : List (ArrivedState T)) (routes : List Share) (ports : List (List PortState)) (callers : List (CallerState (Call Held PlaceState))) (served : List ServedCounts)
      (poller_calls : List (Option (List (PollerCall T)))) : Type 0 where
    pub runs : List (Run T)
    pub whole : AllByRecursion (IsWholeRun group seen counts given accepted) runs
    pub apart : AreApart runs
    pub came_to : IsInterleaving came (map (λ run. run.last.received) runs)
    pub ports_are : ports ≡ map (λ run. run.last.supply.ports) runs
    pub callers_are : callers ≡ map (λ run. run.last.supply.desk) runs
    pub served_are : served ≡ map (λ run. run.last.served) runs
    pub poller_calls_are : poller_calls ≡ map (λ run. run.last.poller_calls) runs
    pub one_part : AllByRecursion (λ run. run.last.supply.desk.parts ≡ 1) runs
    pub known : AllByRecursion (λ run. AreFirst run.last.supply.known.shares routes) runs
