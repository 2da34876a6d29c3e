-- What comes in an event, and that the steps of the event answer it: each client's stream is read packet by packet (sections 2.1 and 4.13).
use Rattle.std.specs.Prelude.{◌≡◌, ◌≢◌, ℕ, ◌<◌, Bool, true, false, List, [], ◌∷◌, ◌++◌, Option, Some, None, slice_get, ⊤}
use Rattle.limits.specs.Limits.{most_ports}
use Rattle.mqtt_wire.specs.Spelling.{Spells}
use Rattle.mqtt_wire.specs.Stream.{FaultAt}
use Rattle.conn_supply.specs.declared.reply.Then.TheVariants.{Go}
use Rattle.conn_engine.specs.declared.input.Input.{Input}
use Rattle.conn_engine.specs.declared.input.Input.TheVariants as inputs
use Rattle.client_table.specs.Clients.{ClientState, StepOutput}
use Rattle.client_table.specs.Streams.{IsRead}
use Rattle.local_broker.specs.Places.{GroupPlace}
use Rattle.local_broker.specs.Broker.{is_open}
use Rattle.local_server.specs.declared.event.ServerEvent.{ServerEvent}
use Rattle.local_server.specs.declared.event.ServerEvent.TheVariants as events
use Rattle.local_server.specs.declared.event.TimedEvent.{TimedEvent}
use Rattle.local_server.specs.Servers.{Clients, ServerState}
use Rattle.local_server.specs.Happening.{HappensAll}
use Rattle.local_server.specs.ConnSteps.{ConnStep, AllTell, AreMadeAt, conn_steps_of}

-- the packet that stands in front of a stream, or the fault, and what is left of the stream after it
abbrev pub StandsInFront : Input → List ℕ → List ℕ → Type 0
StandsInFront (inputs.Packet packet) stream rest = (front : List ℕ) × Spells packet front × (stream ≡ front ++ rest)
StandsInFront (inputs.Fault fault) stream rest = FaultAt fault stream × (rest ≡ stream)
StandsInFront inputs.Tick stream rest = ⊥
StandsInFront inputs.EndOfInput stream rest = ⊥
StandsInFront inputs.Closing stream rest = ⊥

-- what these steps answer is read from the front of a stream, one after the other, until the connection ends; and this is left of it
abbrev pub AreRead : List ConnStep → List ℕ → List ℕ → Type 0
AreRead [] stream rest = rest ≡ stream
AreRead (conn_step ∷ conn_steps) stream rest =
    (behind : List ℕ) × StandsInFront conn_step.input stream behind × (conn_step.next ≢ Go → conn_steps ≡ []) × AreRead conn_steps behind rest

-- the client of an open connection has this unread: nothing that is whole, unless it waits for a session. Of one that has ended nothing is read
abbrev pub IsLeftTo : Option (ClientState GroupPlace) → List ℕ → Type 0
IsLeftTo None rest = ⊤
IsLeftTo (Some client) rest = (client.unread.bytes ≡ rest) × IsRead client

abbrev pub ReadsFrom : List ℕ → List ConnStep → Option (ClientState GroupPlace) → Type 0
ReadsFrom stream conn_steps after = (rest : List ℕ) × AreRead conn_steps stream rest × IsLeftTo after rest

-- a piece of its client's stream comes after what is unread; to a connection that is not open nothing comes
abbrev pub PieceIsAnswered : Option (ClientState GroupPlace) → List ℕ → List ConnStep → Option (ClientState GroupPlace) → Type 0
PieceIsAnswered None piece conn_steps after = conn_steps ≡ []
PieceIsAnswered (Some client) piece conn_steps after = ReadsFrom (client.unread.bytes ++ piece) conn_steps after

-- time goes on; after that is read what came while the connection waited for a session
abbrev pub TickIsAnswered : Option (ClientState GroupPlace) → List ConnStep → Option (ClientState GroupPlace) → Type 0
TickIsAnswered None conn_steps after = conn_steps ≡ []
TickIsAnswered (Some client) [] after = ⊥
TickIsAnswered (Some client) (conn_step ∷ conn_steps) after = (conn_step.input ≡ inputs.Tick) × (conn_step.next ≢ Go → conn_steps ≡ []) × ReadsFrom client.unread.bytes conn_steps after

-- a connection is ended by this input, where it is open
abbrev pub LastIsAnswered : Input → Option (ClientState GroupPlace) → List ConnStep → Type 0
LastIsAnswered input None conn_steps = conn_steps ≡ []
LastIsAnswered input (Some client) conn_steps = (conn_step : ConnStep) × (conn_steps ≡ conn_step ∷ []) × (conn_step.input ≡ input)

-- the client of the connection with this number, where it is open
abbrev pub open_in : Option (Option (ClientState GroupPlace)) → Option (ClientState GroupPlace)
open_in None = None
open_in (Some cell) = cell

abbrev pub client_at : Clients → ℕ → Option (ClientState GroupPlace)
client_at clients number = open_in (slice_get clients number)

-- the steps of an event answer what came in it
abbrev pub EventIsAnswered : ServerEvent → Clients → List ConnStep → Clients → Type 0
EventIsAnswered (events.Open number) old conn_steps new = conn_steps ≡ []
EventIsAnswered (events.Bytes number piece) old conn_steps new = PieceIsAnswered (client_at old number) piece conn_steps (client_at new number)
EventIsAnswered (events.Tick number) old conn_steps new = TickIsAnswered (client_at old number) conn_steps (client_at new number)
EventIsAnswered (events.End number) old conn_steps new = LastIsAnswered inputs.EndOfInput (client_at old number) conn_steps
EventIsAnswered events.Close old conn_steps new = (number : ℕ) → number < most_ports → LastIsAnswered inputs.Closing (client_at old number) (conn_steps_of number conn_steps)

-- after the close nothing comes any more
abbrev pub EventIsAnsweredIf : Bool → ServerEvent → Clients → List ConnStep → Clients → Type 0
EventIsAnsweredIf true event old conn_steps new = EventIsAnswered event old conn_steps new
EventIsAnsweredIf false event old conn_steps new = conn_steps ≡ []

-- the steps of a run answer what came in its events, one event after the other: each has those that were taken in it, at the moment of the server's clock then
abbrev pub AllAreAnswered : (old : ServerState) (events : List TimedEvent) (outputs : List StepOutput) (new : ServerState) → HappensAll old events outputs new → List ConnStep → Type 0
AllAreAnswered old [] outputs new run conn_steps = conn_steps ≡ []
AllAreAnswered old (first ∷ others) outputs new run conn_steps =
    let mid = run.0 in
    let now = run.1 in
    (these later : List ConnStep) × AllTell now these × AreMadeAt mid.clock these × EventIsAnsweredIf (is_open old.broker) first.event old.clients these mid.clients
    × AllAreAnswered mid others run.2 new run.4 later × (conn_steps ≡ these ++ later)
