-- The run of a worker: what it did, one deed after the other, each at the state that the one before it left, from ports through which nothing was published.
use Rattle.std.specs.Prelude.{◌≡◌, ◌≤◌, ℕ, ◌+◌, max, Bool, false, List, [], ◌∷◌, ◌++◌, Option, Some, None, replicate, slice_get}
use Rattle.std.specs.List.{flat_map}
use Rattle.transport.specs.declared.counts.Counts.{Counts}
use Rattle.group_queue.specs.Ports.{GroupId}
use Rattle.broker_groups.specs.Answers.{Sights}
use Rattle.broker_groups.specs.Naming.{AreUnsent}
use Rattle.group_queue.specs.Places.{PlaceState}
use Rattle.conn_laws.specs.Quotas.{IsWithinLimit, IsWithinQuota}
use Rattle.conn_engine.specs.declared.phase.ConnPhase.TheVariants.{Ended}
use Rattle.conn_service.specs.declared.served.Served.{Served}
use Rattle.conn_service.specs.declared.served.Served.TheVariants.{Memory}
use Rattle.conn_service.specs.Acts.{Act}
use Rattle.conn_service.specs.Services.{ServiceState}
use Rattle.conn_service.specs.Lives.{DoesAll, Rounds}
use Rattle.worker_connections.specs.Cells.{InCell, Opens, occupied}
use Rattle.shared_supply.specs.Calls.{Calls}
use Rattle.shared_supply.specs.Waking.{KeepsAtMost, no_wakes, one_called}
use Rattle.shared_supply.specs.Workers.{Worker, Begins, Leaves, draining_if, is_visiting}
use Rattle.worker_connections.specs.declared.served.ServedCounts.{ServedCounts}
use Rattle.worker_connections.specs.Arrivals.{ArrivedState, IsWatched, opening_at}
use Rattle.worker_connections.specs.PollerCalls.{PollerCall, Register, Close, Wait, HasNoCalls, with_call, closed_if}
use Rattle.worker_connections.specs.Counting.{counted, counted_if, none_served}
use Rattle.worker_connections.specs.Retiring.{RetiresDue}
use Rattle.worker_connections.specs.Sweeping.{AreTicked, sweep_period}

-- what a worker did
pub data Deed (T : Type 0) : Type 0 where
  -- this connection came, and was opened in this cell at this moment
  Opened : (arrived : ArrivedState T) → (cell now : ℕ) → Deed T
  -- this connection came, and was closed at once, as it came: an allocation failed, or the system did not watch it, and else it was watched under this number
  Closed : (arrived : ArrivedState T) → (number : Option ℕ) → Deed T
  -- so many messages at most are to be handed out from now on
  Allowed : (most : ℕ) → Deed T
  -- the connection in this cell went on by a round at this moment, of these acts; and ended so and was closed, if it did
  MadeRound : (cell now : ℕ) → (acts : List Act) → (how : Option Served) → Deed T
  -- nobody was in the cell
  Passed : (cell : ℕ) → Deed T
  -- the sessions that the desk handed out as over at this moment were retired, as by a Tick, in a visit of the worker's own, unless the gate was shut
  RetiredDue : (now : ℕ) → Deed T
  -- another worker called it for a message of the group of this slot
  Called : (slot : ℕ) → Deed T
  -- of the messages that others may wait for it kept so many of each group at most, and told others of these
  Notified : (most others : List ℕ) → Deed T
  -- it told others all that they wait for
  NotifiedAll : Deed T
  -- it waited at its poller for so many milliseconds at most, which then told this moment, and whether it drains from then on
  Waited : (at_most now : ℕ) → (drains : Bool) → Deed T

-- what a worker has: the number of the connection in its first cell, from which on those in the others have theirs; what it asks, its connections, those that came, in order, how
-- connections ended, and the calls of its poller by which it had transports watched, closed them and waited, in order; `None` where its poller does not tell them. Its moment is the
-- latest that a wait told, and 0 before the first
pub record RunState (T : Type 0) : Type 0 where
  pub first : ℕ
  pub supply : Worker
  pub cells : List (Option (ServiceState PlaceState T))
  pub received : List (ArrivedState T)
  pub served : ServedCounts
  pub poller_calls : Option (List (PollerCall T))
  pub latest : ℕ

-- the run of a worker: from its first state to its last one
pub record Run (T : Type 0) : Type 0 where
  pub first : RunState T
  pub deeds : List (Deed T)
  pub last : RunState T

-- nothing came yet, it did not wait yet, it does not drain, nothing was published, and the desk was not called: so what its ports have in the end was published in the run, and the calls that are its own were made in it
pub record IsFirst {T : Type 0} (state : RunState T) : Type 0 where
  pub count : ℕ
  pub free : state.cells ≡ replicate count None
  pub none_came : state.received ≡ []
  pub none_ended : state.served ≡ none_served
  pub none_waits : state.supply.wakes ≡ no_wakes
  pub not_draining : state.supply.draining ≡ false
  pub no_poller_calls : HasNoCalls state.poller_calls
  pub none_sent : AreUnsent state.supply.ports
  pub none_called : state.supply.desk.own ≡ []
  pub not_looked : state.latest ≡ 0

-- a worker owes nothing: each of its open connections had a Tick, or was opened, less than 100 milliseconds before its moment, or waits to write; and it told others all that they
-- wait for
pub record OwesNothing {T : Type 0} (state : RunState T) : Type 0 where
  pub ticked : AreTicked state.latest state.cells
  pub told : state.supply.wakes ≡ no_wakes

-- after a round: it goes on in its cell, or has ended so and left it
abbrev pub LeavesCell : {T : Type 0} → Option Served → ServiceState PlaceState T → Option (ServiceState PlaceState T) → Type 0
LeavesCell None behind after = after ≡ Some behind
LeavesCell (Some how) behind after = (behind.ending ≡ Some how) × (behind.client.conn.phase ≡ Ended) × (after ≡ None)

module _ {T : Type 0} (group : ℕ → GroupId) (seen : Sights) (counts : T → Counts) (given accepted : T → Option (List ℕ)) where
  -- a round of a connection of a broker with these groups, in which nobody else uses its worker's supply
  abbrev pub RoundsOf : ℕ → ServiceState PlaceState T → Worker → ServiceState PlaceState T → Worker → Type 0
  RoundsOf now service supply behind supply' =
      Rounds (Calls group seen) Begins Leaves is_visiting (λ (p : PlaceState). p.group) counts given accepted now service supply behind supply'

  -- the connection in a cell goes on by a round of these acts; where that ends it, its transport is closed as the round left it
  pub record GoesOn (cell now : ℕ) (acts : List Act) (how : Option Served) (before : Option (ServiceState PlaceState T)) (supply : Worker) (poller_calls : Option (List (PollerCall T)))
      (after : Option (ServiceState PlaceState T)) (supply' : Worker) (poller_calls' : Option (List (PollerCall T))) : Type 0 where
    pub service : ServiceState PlaceState T
    pub here : before ≡ Some service
    pub behind : ServiceState PlaceState T
    pub round : RoundsOf now service supply behind supply'
    pub acts_are : acts ≡ round.led.acts
    pub leaves : LeavesCell how behind after
    pub closes : poller_calls' ≡ closed_if cell how behind.transport poller_calls

  -- what a deed makes of the worker. What it does at a moment it does at its own one, and that changes only where it waited; **and it drains only from a wait on whose
  -- poller told it so**. **It waits only where it owes nothing**, and no longer than 50 milliseconds
  abbrev pub Makes : Deed T → RunState T → RunState T → Type 0
  Makes (Opened arrived cell now) old new =
      (watched : T) × IsWatched counts given accepted arrived.transport watched × InCell old.cells cell (Opens (old.first + cell) (opening_at now arrived) watched) new.cells
      × (new ≡ record old { cells = new.cells; received = old.received ++ arrived ∷ []; poller_calls = with_call (Register (Some cell) watched) old.poller_calls }) × (now ≡ old.latest)
  Makes (Closed arrived number) old new =
      (watched : T) × IsWatched counts given accepted arrived.transport watched
      × (new ≡ record old { received = old.received ++ arrived ∷ []; served = counted Memory old.served; poller_calls = with_call (Close number watched) (with_call (Register number watched) old.poller_calls) })
  Makes (Allowed most) old new = new ≡ record old { supply = record old.supply { allowance = most } }
  Makes (MadeRound cell now acts how) old new =
      InCell old.cells cell (λ before after. GoesOn cell now acts how before old.supply old.poller_calls after new.supply new.poller_calls) new.cells
      × (new ≡ record old { supply = new.supply; cells = new.cells; served = counted_if how old.served; poller_calls = new.poller_calls }) × (now ≡ old.latest)
  Makes (Passed cell) old new =
      InCell old.cells cell (λ before after. (before ≡ None) × (after ≡ None)) new.cells × (new ≡ record old { cells = new.cells })
  Makes (RetiredDue now) old new = RetiresDue group seen old.supply now new.supply × (new ≡ record old { supply = new.supply }) × (now ≡ old.latest)
  Makes (Called slot) old new = new ≡ record old { supply = record old.supply { wakes = one_called slot old.supply.wakes } }
  Makes (Notified most others) old new =
      KeepsAtMost most others old.supply.wakes new.supply.wakes × (new ≡ record old { supply = record old.supply { wakes = new.supply.wakes } })
  Makes NotifiedAll old new = new ≡ record old { supply = record old.supply { wakes = no_wakes } }
  Makes (Waited at_most now drains) old new =
      OwesNothing old × (at_most ≤ sweep_period)
      × (new ≡ record old { supply = draining_if drains old.supply; poller_calls = with_call (Wait at_most now drains) old.poller_calls; latest = max old.latest now })

  -- these deeds, one after the other
  abbrev pub MakesAll : List (Deed T) → RunState T → RunState T → Type 0
  MakesAll [] old new = new ≡ old
  MakesAll (deed ∷ deeds) old new = (mid : RunState T) × Makes deed old mid × MakesAll deeds mid new

  -- its deeds lead from the one to the other
  pub record IsRun (run : Run T) : Type 0 where
    pub begun : IsFirst run.first
    pub made : MakesAll run.deeds run.first run.last

  -- the worker ran to this state: one list of deeds, of which all is told
  pub record HasRunTo (state : RunState T) : Type 0 where
    pub run : Run T
    pub is : IsRun run
    pub here : run.last ≡ state

  -- it ran to its end: all connections that came to it have ended
  pub record IsWholeRun (run : Run T) : Type 0 where
    pub is : IsRun run
    pub none_live : occupied run.last.cells ≡ 0

  -- **Within the Receive Maximum** (4.9): at each state of the run, each connection in a cell, and whatever it does in a round from there, has no more PUBLISH packets
  -- unacknowledged than its Receive Maximum, and than this limit
  pub record KeepsReceiveMaximum (limit : ℕ) (run : Run T) : Type 0 where
    pub kept : (these those : List (Deed T)) (mid : RunState T) → run.deeds ≡ these ++ those → MakesAll these run.first mid
        → (cell : ℕ) (service : ServiceState PlaceState T) → slice_get mid.cells cell ≡ Some (Some service)
        → (acts : List Act) (later : ServiceState PlaceState T) (supply supply' : Worker)
        → DoesAll (Calls group seen) Begins Leaves is_visiting (λ (p : PlaceState). p.group) counts given accepted acts service supply later supply'
        → IsWithinQuota later.client.conn.phase × IsWithinLimit limit later.client.conn.phase

-- the connections that came by a deed, and by these
abbrev pub came_in : {T : Type 0} → Deed T → List (ArrivedState T)
came_in (Opened arrived cell now) = arrived ∷ []
came_in (Closed arrived number) = arrived ∷ []
came_in _ = []

abbrev pub came_by : {T : Type 0} → List (Deed T) → List (ArrivedState T)
came_by deeds = flat_map came_in deeds
