-- The connections of a worker of a broker: each that it received is open, or has ended and is counted by its ending.
use Rattle.std.specs.Prelude.{◌≡◌, ◌≢◌, ◌⊎◌, ℕ, ◌+◌, List, length, Option, Some, None}
use Rattle.transport.specs.declared.counts.Counts.{Counts}
use Rattle.group_queue.specs.Ports.{GroupId, PortState}
use Rattle.broker_groups.specs.Answers.{Sights}
use Rattle.group_queue.specs.Places.{PlaceState}
use Rattle.conn_channel.specs.Ends.{ChannelId, ReceiverState}
use Rattle.conn_service.specs.declared.served.Served.{Served}
use Rattle.conn_service.specs.declared.served.Served.TheVariants.{Memory}
use Rattle.conn_service.specs.Services.{ServiceState}
use Rattle.worker_connections.specs.Cells.{FollowsIn, InCell, Opens, Turns as TurnsIn, occupied}
use Rattle.worker_connections.specs.declared.admission.Admission.{Admission}
use Rattle.worker_connections.specs.declared.admission.Admission.TheVariants as admission
use Rattle.worker_connections.specs.declared.cell_outcome.CellOutcome.{CellOutcome}
use Rattle.worker_connections.specs.declared.cell_outcome.CellOutcome.TheVariants.{Vacant, Goes, Ended}
use Rattle.conn_service.specs.declared.served.Direction.{Direction}
use Rattle.conn_service.specs.declared.served.Round.{Round}
use Rattle.conn_service.specs.declared.served.Round.TheVariants as rounds
use Rattle.shared_routes.specs.Cells.{RoutesId}
use Rattle.shared_supply.specs.Calls.{Calls}
use Rattle.shared_supply.specs.Waking.{no_wakes}
use Rattle.shared_supply.specs.Workers.{Worker, Begins, Leaves, is_visiting}
use Rattle.shared_supply.specs.declared.wakes.Wakes.{Wakes}
use Rattle.worker_connections.specs.declared.served.ServedCounts.{ServedCounts}
use Rattle.worker_connections.specs.declared.sweeps.Sweeps.{Sweeps}
use Rattle.worker_connections.specs.Arrivals.{ArrivedState, IsWatched, opening_at}
use Rattle.worker_connections.specs.Chains.{RunState}
use Rattle.worker_connections.specs.PollerCalls.{PollerCall, Register, Close, with_call}
use Rattle.worker_connections.specs.Counting.{counted, counts_of, none_served}
use Rattle.worker_connections.specs.Retiring.{RetiresDue}
use Rattle.worker_connections.specs.Sweeping.{KeepsMoment}

-- the number of the connection in the first cell, from which on those in the others have theirs; the end of the channel, the cells with the connections that are open, the counts of
-- those that have ended, when those that are open went on, what they ask of the broker, and the calls of the poller, where they are known
pub record ConnectionsState (T : Type 0) : Type 0 where
  pub first : ℕ
  pub receiver : ReceiverState (ArrivedState T)
  pub cells : List (Option (ServiceState PlaceState T))
  pub served : ServedCounts
  pub sweeps : Sweeps
  pub supply : Worker
  pub poller_calls : Option (List (PollerCall T))

-- how many connections are open
abbrev pub live : {T : Type 0} → ConnectionsState T → ℕ
live connections = occupied connections.cells

-- what they did that others may wait for
abbrev pub wakes_of : {T : Type 0} → ConnectionsState T → Wakes
wakes_of connections = connections.supply.wakes

-- the same connections, who did this that others may wait for
abbrev pub with_wakes : {T : Type 0} → ConnectionsState T → Wakes → ConnectionsState T
with_wakes connections wakes = record connections { supply = record connections.supply { wakes = wakes } }

-- what the run of their worker has come to
abbrev pub run_of : {T : Type 0} → ConnectionsState T → RunState T
run_of connections =
    record {
      first = connections.first;
      supply = connections.supply;
      cells = connections.cells;
      received = connections.receiver.received;
      served = connections.served;
      poller_calls = connections.poller_calls;
      latest = connections.sweeps.latest;
    }

-- none was received yet
pub record AreFresh {T : Type 0} (receiver : ReceiverState (ArrivedState T)) (ports : List PortState) (connections : ConnectionsState T) : Type 0 where
  pub receiver_is : connections.receiver ≡ receiver
  pub ports_are : connections.supply.ports ≡ ports
  pub none_live : live connections ≡ 0
  pub none_ended : connections.served ≡ none_served
  pub none_waits : wakes_of connections ≡ no_wakes

-- what stays as it is: the numbers of the connections in the cells, from the first one on; the channel that they come through, the table of the routes, and how many parts they have
-- of the right to call the desk
pub record Ties (T : Type 0) : Type 0 where
  pub first : ℕ
  pub cells : ℕ
  pub channel : ChannelId (ArrivedState T)
  pub table : RoutesId
  pub parts : ℕ

abbrev pub ties_of : {T : Type 0} → ConnectionsState T → Ties T
ties_of connections =
    record {
      first = connections.first;
      cells = length connections.cells;
      channel = connections.receiver.channel;
      table = connections.supply.known.table;
      parts = connections.supply.desk.parts;
    }

-- they belong to the same
abbrev pub StaysOf : {T : Type 0} → ConnectionsState T → ConnectionsState T → Type 0
StaysOf old new = ties_of new ≡ ties_of old

-- after a round too, which leaves the worker's moment and the number of cells as they are
pub record Rounds {T : Type 0} (old new : ConnectionsState T) : Type 0 where
  pub stays : StaysOf old new
  pub keeps : KeepsMoment old.sweeps new.sweeps
  pub count : length new.cells ≡ length old.cells

-- the sessions that the desk hands out as over at the worker's moment are retired, and nothing else is done
abbrev pub RetiresAll : {T : Type 0} → (ℕ → GroupId) → Sights → ConnectionsState T → ConnectionsState T → Type 0
RetiresAll group seen old new = RetiresDue group seen old.supply old.sweeps.latest new.supply × (new ≡ record old { supply = new.supply })

-- the end mark was received, and no connection is open
pub record IsDone {T : Type 0} (connections : ConnectionsState T) : Type 0 where
  pub mark : connections.receiver.end_marks_received ≡ 1
  pub none_live : live connections ≡ 0

-- a connection that came is opened in a cell at this moment, with the number of that cell, over its transport as it is watched; or in none, and its transport is closed as it came
abbrev pub Admits : {T : Type 0} → (T → Counts) → (T → Option (List ℕ)) → (T → Option (List ℕ)) → (first now : ℕ) → ArrivedState T → List (Option (ServiceState PlaceState T)) → Option (List (PollerCall T))
    → Option ℕ → List (Option (ServiceState PlaceState T)) → Option (List (PollerCall T)) → Type 0
Admits {T} counts given accepted first now arrived old poller_calls None new poller_calls' =
    (new ≡ old) × ((watched : T) × (number : Option ℕ) × IsWatched counts given accepted arrived.transport watched
    × (poller_calls' ≡ with_call (Close number watched) (with_call (Register number watched) poller_calls)))
Admits {T} counts given accepted first now arrived old poller_calls (Some cell) new poller_calls' =
    (watched : T) × IsWatched counts given accepted arrived.transport watched × InCell old cell (Opens (first + cell) (opening_at now arrived) watched) new × (occupied new ≡ occupied old + 1) × (poller_calls' ≡ with_call (Register (Some cell) watched) poller_calls)

-- it is open then, or has ended and is counted as one for which an allocation failed
abbrev pub TakesIn : {T : Type 0} → (T → Counts) → (T → Option (List ℕ)) → (T → Option (List ℕ)) → (first now : ℕ) → ArrivedState T → List (Option (ServiceState PlaceState T)) → ServedCounts
    → Option (List (PollerCall T)) → List (Option (ServiceState PlaceState T)) → ServedCounts → Option (List (PollerCall T)) → Type 0
TakesIn counts given accepted first now arrived old served poller_calls new served' poller_calls' =
    ((cell : ℕ) × Admits counts given accepted first now arrived old poller_calls (Some cell) new poller_calls' × (served' ≡ served))
    ⊎ (Admits counts given accepted first now arrived old poller_calls None new poller_calls' × (served' ≡ counted Memory served))

-- what came through the channel is told of the cells: a connection was opened in the free cell that is told, and in no other; or none was opened
abbrev pub TellsCell : {T : Type 0} → Admission → List (Option (ServiceState PlaceState T)) → List (Option (ServiceState PlaceState T)) → Type 0
TellsCell (admission.Opened cell) old new = InCell old cell (λ before after. (before ≡ None) × (after ≢ None)) new
TellsCell admission.Refused old new = new ≡ old
TellsCell admission.EndMark old new = new ≡ old
TellsCell admission.Nothing old new = new ≡ old

-- what the connection in a cell waits for after a round, or how it has ended; none where the cell was free
abbrev pub round_of : {T : Type 0} → CellOutcome T → Option Round
round_of Vacant = None
round_of (Goes round) = Some round
round_of (Ended how transport) = Some (rounds.Ended how)

-- those that have ended, the latest first, are counted by their endings; together with those in the cells they are as many as were received
pub record IsAccounted {T : Type 0} (received : ℕ) (cells : List (Option (ServiceState PlaceState T))) (served : ServedCounts) : Type 0 where
  pub endings : List Served
  pub counted : served ≡ counts_of endings
  pub all : received ≡ occupied cells + length endings

-- each of so many connections has ended, and is counted by its ending
pub record AreCounted (received : ℕ) (served : ServedCounts) : Type 0 where
  pub endings : List Served
  pub counted : served ≡ counts_of endings
  pub all : received ≡ length endings

module _ {T : Type 0} (group : ℕ → GroupId) (seen : Sights) (counts : T → Counts) (given accepted : T → Option (List ℕ)) where
  -- the connection in a cell, where there is one, went by a round this way at the worker's moment, and so many messages at most were handed to its client
  pub record GoesBy (cell : ℕ) (direction : Direction) (most : ℕ) (cell_outcome : CellOutcome T) (old new : ConnectionsState T) : Type 0 where
    pub turns : InCell old.cells cell
        (λ one other. TurnsIn (Calls group seen) Begins Leaves is_visiting (λ (p : PlaceState). p.group) counts given accepted old.sweeps.latest one
        (record old.supply { allowance = most }) cell_outcome other new.supply) new.cells
    pub way : InCell old.cells cell (λ one other. FollowsIn given accepted direction old.sweeps.latest one cell_outcome other) new.cells
