-- No connection vanishes: one that is open stays open until a step of its own ends it, and is open no more then.
use Rattle.std.specs.Prelude.{◌≡◌, ◌≢◌, ◌⊎◌, ℕ, Bool, true, false, List, [], ◌∷◌, ◌++◌, None, ⊤}
use Rattle.client_table.specs.Clients.{StepOutput}
use Rattle.conn_supply.specs.declared.reply.Then.TheVariants.{Go}
use Rattle.local_broker.specs.Broker.{is_open}
use Rattle.local_server.specs.declared.event.ServerEvent.{ServerEvent}
use Rattle.local_server.specs.declared.event.ServerEvent.TheVariants as events
use Rattle.local_server.specs.declared.event.TimedEvent.{TimedEvent}
use Rattle.local_server.specs.Servers.{Clients, ServerState}
use Rattle.local_server.specs.Happening.{HappensAll}
use Rattle.local_server.specs.Streams.{client_at}
use Rattle.local_server.specs.TakenSteps.{TakenStep, steps_of, opens, AllAreTaken}

-- the connection of this number is open
abbrev pub IsOpen : Clients → ℕ → Type 0
IsOpen clients number = client_at clients number ≢ None

-- the last of these steps ends its connection
pub record EndsByItsLast (steps : List TakenStep) : Type 0 where
  pub earlier : List TakenStep
  pub last : TakenStep
  pub are : steps ≡ earlier ++ last ∷ []
  pub ends : last.next ≢ Go

-- what these steps of an event make of the connection of this number, where the server was open
pub record KeepsConnection (event : ServerEvent) (old : Clients) (steps : List TakenStep) (new : Clients) (number : ℕ) : Type 0 where
  -- one that is open before the event is open after it, or the last of its steps in the event ends it, and it is open no more
  pub kept : IsOpen old number → IsOpen new number ⊎ (EndsByItsLast (steps_of number steps) × (client_at new number ≡ None))
  -- one whose last step in the event ends it is open no more
  pub ended : EndsByItsLast (steps_of number steps) → client_at new number ≡ None
  -- one that the event opens is open after it
  pub opened : opens event number ≡ true → IsOpen new number
  -- and no other comes to be open
  pub only : IsOpen new number → IsOpen old number ⊎ (opens event number ≡ true)

-- after the close all stays as it is
abbrev pub KeepsConnectionsIf : Bool → ServerEvent → Clients → List TakenStep → Clients → Type 0
KeepsConnectionsIf true event old steps new = (number : ℕ) → KeepsConnection event old steps new number
KeepsConnectionsIf false event old steps new = (steps ≡ []) × (new ≡ old)

-- so it is in each event of a run, with the steps that were taken in it
abbrev pub AllKeepConnections : (old : ServerState) (events : List TimedEvent) (outputs : List StepOutput) (new : ServerState) (run : HappensAll old events outputs new) (steps : List TakenStep)
    → AllAreTaken old events outputs new run steps → Type 0
AllKeepConnections old [] outputs new run steps taken = ⊤
AllKeepConnections old (first ∷ others) outputs new run steps taken =
    let mid = run.0 in
    KeepsConnectionsIf (is_open old.broker) first.event old.clients taken.0 mid.clients × AllKeepConnections mid others run.2 new run.4 taken.1 taken.3

-- an event of another connection than that of this number
abbrev pub IsOfAnother : ServerEvent → ℕ → Type 0
IsOfAnother (events.Open its) number = number ≢ its
IsOfAnother (events.Bytes its piece) number = number ≢ its
IsOfAnother (events.Tick its) number = number ≢ its
IsOfAnother (events.End its) number = number ≢ its
IsOfAnother events.Close number = ⊥
