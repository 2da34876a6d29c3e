-- The whole stream of a connection: all that its client sent since it was opened is what its steps read, packet by packet, and what is unread (sections 2.1 and 4.13).
use Rattle.std.specs.Prelude.{ℕ, nat_eq, Bool, true, false, if◌then◌else◌, List, [], ◌∷◌, ◌++◌, map, filter, Option, Some, None}
use Rattle.conn_engine.specs.declared.input.Input.{Input}
use Rattle.conn_engine.specs.declared.input.Input.TheVariants as inputs
use Rattle.client_table.specs.Clients.{ClientState, StepOutput}
use Rattle.local_broker.specs.Places.{GroupPlace}
use Rattle.local_broker.specs.Broker.{is_open}
use Rattle.local_server.specs.declared.event.ServerEvent.{ServerEvent}
use Rattle.local_server.specs.declared.event.ServerEvent.TheVariants as events
use Rattle.local_server.specs.declared.event.TimedEvent.{TimedEvent}
use Rattle.local_server.specs.Servers.{ServerState}
use Rattle.local_server.specs.Happening.{HappensAll}
use Rattle.local_server.specs.ConnSteps.{ConnStep}
use Rattle.local_server.specs.Streams.{ReadsFrom, client_at}
use Rattle.local_server.specs.TakenSteps.{TakenStep, conn_step_of, steps_of, opens, AllAreTaken}

-- a packet is read of a stream, and so is a fault; a Tick, the end of the input and the close are not
abbrev pub is_read_of_stream : Input → Bool
is_read_of_stream (inputs.Packet packet) = true
is_read_of_stream (inputs.Fault fault) = true
is_read_of_stream inputs.Tick = false
is_read_of_stream inputs.EndOfInput = false
is_read_of_stream inputs.Closing = false

-- those of these steps that answer what is read of a stream
abbrev pub reading_steps : List TakenStep → List ConnStep
reading_steps steps = filter (λ conn_step. is_read_of_stream conn_step.input) (map conn_step_of steps)

-- the piece that an event has for the connection of this number
abbrev pub piece_in : ServerEvent → ℕ → List ℕ
piece_in (events.Open its) number = []
piece_in (events.Bytes its piece) number = if nat_eq its number then piece else []
piece_in (events.Tick its) number = []
piece_in (events.End its) number = []
piece_in events.Close number = []

-- a piece comes where the connection is open, and the server too
abbrev pub piece_to : Bool → Option (ClientState GroupPlace) → List ℕ → List ℕ
piece_to true (Some client) piece = piece
piece_to true None piece = []
piece_to false client piece = []

-- the event opens the connection of this number: that is not open, and the server is
abbrev pub begins : Bool → Option (ClientState GroupPlace) → ServerEvent → ℕ → Bool
begins true (Some client) event number = false
begins true None event number = opens event number
begins false client event number = false

-- what there is since a connection was opened, with what an event adds: it begins anew where the event opens the connection
abbrev pub since_opening : {A : Type 0} → Bool → List A → List A → List A
since_opening true earlier these = these
since_opening false earlier these = earlier ++ these

-- Before each event of a run and after the last: the pieces that came on the connection of this number since it was opened, one after the other, are what its steps since then
-- read, packet by packet in their order, and what is left. That is what an open connection has unread; of one that has ended nothing more is read.
abbrev pub ReadsWholeStream : (number : ℕ) (stream : List ℕ) (earlier : List ConnStep) (old : ServerState) (events : List TimedEvent) (outputs : List StepOutput) (new : ServerState)
    (run : HappensAll old events outputs new) (steps : List TakenStep) → AllAreTaken old events outputs new run steps → Type 0
ReadsWholeStream number stream earlier old [] outputs new run steps taken = ReadsFrom stream earlier (client_at new.clients number)
ReadsWholeStream number stream earlier old (first ∷ others) outputs new run steps taken =
    let mid = run.0 in
    let client = client_at old.clients number in
    let anew = begins (is_open old.broker) client first.event number in
    ReadsFrom stream earlier client
    × ReadsWholeStream number (since_opening anew stream (piece_to (is_open old.broker) client (piece_in first.event number)))
    (since_opening anew earlier (reading_steps (steps_of number taken.0))) mid others run.2 new run.4 taken.1 taken.3
