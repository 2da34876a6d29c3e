-- What a broker on threads promises of its connections and of the messages of its groups: the headline.
use Rattle.std.specs.Prelude.{◌≡◌, ℕ, List, length, take, Option, Result, All}
use Rattle.std.specs.List.{AllByRecursion, AllZip}
use Rattle.mqtt_topic.specs.Names.{Share}
use Rattle.mqtt_topic.specs.Routes.{most_routes}
use Rattle.transport.specs.declared.counts.Counts.{Counts}
use Rattle.group_jobs.specs.Stamps.{Held}
use Rattle.call_history.specs.Callers.{all_parts}
use Rattle.call_history.specs.Numbers.{IsEachOnce}
use Rattle.group_jobs.specs.declared.report.Report.{Report}
use Rattle.group_queue.specs.declared.finish.Unfinished.{Unfinished}
use Rattle.group_queue.specs.Ports.{GroupId, PortState}
use Rattle.broker_groups.specs.Answers.{Sights}
use Rattle.broker_groups.specs.Naming.{AreNewPlacesOf}
use Rattle.conn_rules.specs.declared.client_limits.ClientLimits.{ClientLimits}
use Rattle.conn_supply.specs.SupplyCalls.{SupplyCall}
use Rattle.worker_connections.specs.declared.served.ServedCounts.{ServedCounts}
use Rattle.worker_connections.specs.Chains.{KeepsReceiveMaximum}
use Rattle.worker_connections.specs.Numbers.{KeepsNumbers}
use Rattle.worker_connections.specs.PollerCalls.{PollerCall}
use Rattle.worker_connections.specs.Publishing.{IsPublishedBy}
use Rattle.worker_connections.specs.RunCalls.{AreCallsOf}
use Rattle.worker_connections.specs.Sessions.{KeepsSessions}
use Rattle.worker_pool.specs.Accepting.{arrivals}
use Rattle.worker_pool.specs.Pools.{AreServed}
use Rattle.group_queue.specs.Places.{PlaceState}
use Rattle.threaded_broker.specs.Callers.{DeskCallerState, HasPutIn, HasTakenIn}
use Rattle.threaded_broker.specs.Places.{CameOfCalls}
use Rattle.final_report.specs.Brokers.{KeptItsPromisesBehind}

module _ {T : Type 0} (group : ℕ → GroupId) (seen : Sights) (counts : T → Counts) (given accepted : T → Option (List ℕ)) where
  -- the run of a broker until it was closed: these connections came to its workers, these ports and counts the workers gave back, and these calls they made of their pollers, by
  -- which they closed transports, each as it was then, and waited. The first caller of its desk, which had put new places of the groups into it and did nothing else (`opened`), took in the workers' callers, and has the whole right to call then. At no moment of the run did a connection have more
  -- unacknowledged PUBLISH packets than its Receive Maximum, and than the limit on these that was given (4.9); all that the ports accepted came of the PUBLISH packets that these connections
  -- stepped, each offered to the groups that match and answered as these took it (3.3.4); each asked the desk under the number of its cell; and at each act what is handed out is what is sent, and what is settled is what a
  -- PUBACK came for (4.4). The groups that match are those of these shares, slot by slot, as far as each worker knew them
  pub record RunsUntilClosed (limits : ClientLimits) (came : List T) (before after : DeskCallerState) (shares : List Share) (ports : List (List PortState)) (served : List ServedCounts)
      (poller_calls : List (Option (List (PollerCall T)))) : Type 0 where
    pub routes : List Share
    pub shares_are : shares ≡ take most_routes routes
    pub callers : List DeskCallerState
    pub opened : (places : List PlaceState) × AreNewPlacesOf group places × HasPutIn before places
    pub workers : AreServed group seen counts given accepted (arrivals limits came) routes ports callers served poller_calls
    pub taken_in : HasTakenIn before callers after
    pub whole_right : after.parts ≡ all_parts
    pub within_receive_maximum : AllByRecursion (KeepsReceiveMaximum group seen counts given accepted limits.max_inflight) workers.runs
    pub published : AllByRecursion (IsPublishedBy group seen counts given accepted) workers.runs
    pub numbers : AllByRecursion (KeepsNumbers group seen counts given accepted) workers.runs
    pub sessions : AllByRecursion (KeepsSessions group seen counts given accepted) workers.runs

  -- **The headline**, of the one run of a broker: these connections came, in this order, and each is in the run of one worker, from its opening to its end, at which it was
  -- closed as the run left it (`run`). Through
  -- the ports that the runs ended with, and with the sessions, places and messages that the calls of the desk led to, of each group whose report is given (`promises`): each
  -- message that was accepted was first handed to at most one member (`first_once`), each member's first hand-outs from a publisher keep that publisher's order (`in_order`),
  -- a refused message went to nobody else (`refused_for_good`), nor did a discarded one (`discarded_for_good`), and the report gives each accepted message exactly one fate
  -- (`one_fate`), which it had (`what_happened`). No connection had more unacknowledged PUBLISH packets than its Receive Maximum. Each of those calls put a place into the new desk, or was made in the run of one
  -- worker, once (`opened`, `taken_in` and `each_call_once`): so no session and no place came out of the desk but by a deed. And each place that the desk had in the end (`promises.0`) did
  -- what the calls of the runs did there, and nothing else (`came_of_calls`): it was handed a message, gave it back, or settled it, as often as a call of a run did that at this
  -- place; the messages that the calls of a step hand out are those of its PUBLISH packets with DUP 0, in their order, and what they settle is what the PUBACK came for (`calls_are`); those by
  -- which a worker retires sessions hand out and settle nothing. The report of a slot is that of the share that is told at its place: to its group
  -- each worker offered what matches that share, from when it knew it. That nothing is handed out after close is said by the token of the drained gate
  pub record KeepsTheHeadline {W : Type 0} (workers : ℕ) (limits : ClientLimits) (came : List T) (before after : DeskCallerState) (shares : List Share) (answers : List (Result Report (Unfinished W)))
      (strangers : List Held) (served : List ServedCounts) (poller_calls : List (Option (List (PollerCall T)))) : Type 0 where
    pub ports : List (List PortState)
    pub every_worker : length ports ≡ workers
    pub run : RunsUntilClosed limits came before after shares ports served poller_calls
    pub each_call_once : IsEachOnce after.own (length after.calls)
    pub promises : KeptItsPromisesBehind group after.calls ports answers strangers
    pub calls : List (List (SupplyCall PlaceState))
    pub calls_are : AllZip (AreCallsOf group seen counts given accepted) run.workers.runs calls
    pub came_of_calls : All (CameOfCalls calls) promises.0
