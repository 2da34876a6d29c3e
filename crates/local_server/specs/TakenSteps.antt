-- The steps that the connections of a server take along a run: what came, what was sent, and what each step began with and left.
use Rattle.std.specs.Prelude.{◌≡◌, ℕ, nat_eq, Bool, true, false, List, [], ◌∷◌, ◌++◌, map, filter, Option, Some, None}
use Rattle.std.specs.List.{AllByRecursion}
use Rattle.mqtt_packet.specs.declared.packet.Packet.{Packet}
use Rattle.conn_rules.specs.Connecting.{inflight_alone}
use Rattle.conn_supply.specs.declared.reply.Then.{Then}
use Rattle.conn_engine.specs.declared.input.Input.{Input}
use Rattle.conn_engine.specs.declared.input.Input.TheVariants as inputs
use Rattle.conn_engine.specs.declared.phase.Opening.{Opening}
use Rattle.conn_engine.specs.declared.phase.ConnPhase.{ConnPhase}
use Rattle.conn_engine.specs.declared.phase.ConnPhase.TheVariants.{Unconnected, Ended}
use Rattle.conn_engine.specs.Step.{Steps}
use Rattle.client_table.specs.Clients.{ClientState, StepOutput, step_output}
use Rattle.local_broker.specs.Places.{GroupPlace}
use Rattle.local_broker.specs.Broker.{Broker, is_open}
use Rattle.local_broker.specs.Calls.{Calls, Closes}
use Rattle.local_server.specs.declared.event.ServerEvent.{ServerEvent}
use Rattle.local_server.specs.declared.event.ServerEvent.TheVariants as events
use Rattle.local_server.specs.declared.event.TimedEvent.{TimedEvent}
use Rattle.local_server.specs.Servers.{ServerState}
use Rattle.local_server.specs.Happening.{slot_of, HappensAll}
use Rattle.local_server.specs.ConnSteps.{ConnStep}
use Rattle.local_server.specs.Streams.{client_at, EventIsAnsweredIf}

-- one step of a connection: how far the connection had come and what the connections shared, before it and after it
pub record TakenStep : Type 0 where
  pub connection : ℕ
  -- the moment of the step
  pub at : ℕ
  pub input : Input
  -- what was sent in it, and whether the connection went on
  pub packets : List Packet
  pub next : Then
  pub phase_before : ConnPhase GroupPlace
  pub phase_after : ConnPhase GroupPlace
  pub broker_before : Broker
  pub broker_after : Broker

-- it is a step of the step law: the packets are the answer to the input, and both states are as `Steps` relates them
abbrev pub IsLawfulStep : TakenStep → Type 0
IsLawfulStep step =
    Steps Calls slot_of step.broker_before step.connection step.phase_before step.at step.input step.packets step.next step.phase_after step.broker_after

-- what was said in it
abbrev pub output_of : TakenStep → StepOutput
output_of step = step_output step.connection step.packets step.next

-- what came in it, and whether the connection went on, as `Streams` asks of the steps of a run; of its session nothing
abbrev pub conn_step_of : TakenStep → ConnStep
conn_step_of step =
    record { connection = step.connection; at = step.at; input = step.input; next = step.next; session = 0; place = None; marks = []; outcomes = [] }

-- the steps of the connection with this number
abbrev pub steps_of : ℕ → List TakenStep → List TakenStep
steps_of connection steps = filter (λ step. nat_eq step.connection connection) steps

-- each step begins with what the connections shared after the one before it
abbrev pub LeadBroker : Broker → List TakenStep → Broker → Type 0
LeadBroker before [] after = after ≡ before
LeadBroker before (step ∷ steps) after = (step.broker_before ≡ before) × LeadBroker step.broker_after steps after

-- each step of a connection begins where the one before it left the connection
abbrev pub LeadPhase : ConnPhase GroupPlace → List TakenStep → ConnPhase GroupPlace → Type 0
LeadPhase before [] after = after ≡ before
LeadPhase before (step ∷ steps) after = (step.phase_before ≡ before) × LeadPhase step.phase_after steps after

-- how far a connection has come: one that is not open has ended
abbrev pub phase_of : Option (ClientState GroupPlace) → ConnPhase GroupPlace
phase_of None = Ended
phase_of (Some client) = client.conn.phase

-- this event is an `Open` of this number
abbrev pub opens : ServerEvent → ℕ → Bool
opens (events.Open its) number = nat_eq its number
opens (events.Bytes its piece) number = false
opens (events.Tick its) number = false
opens (events.End its) number = false
opens events.Close number = false

-- how far a connection has come when the steps of an event begin: one that the event opens waits for its CONNECT, from then on
abbrev pub first_phase : Bool → Opening → Option (ClientState GroupPlace) → ConnPhase GroupPlace
first_phase true opening None = Unconnected opening
first_phase true opening (Some client) = client.conn.phase
first_phase false opening client = phase_of client

-- in a close the groups are closed before the first step
abbrev pub BeginsWith : ServerEvent → Broker → Broker → Type 0
BeginsWith (events.Open number) old first = first ≡ old
BeginsWith (events.Bytes number piece) old first = first ≡ old
BeginsWith (events.Tick number) old first = first ≡ old
BeginsWith (events.End number) old first = first ≡ old
BeginsWith events.Close old first = Closes old first

-- what a step of an event is: one of the connection that the event is of; in a close one of any, which is told that the server closes
abbrev pub IsOf : ServerEvent → TakenStep → Type 0
IsOf (events.Open number) step = ⊥
IsOf (events.Bytes number piece) step = step.connection ≡ number
IsOf (events.Tick number) step = step.connection ≡ number
IsOf (events.End number) step = step.connection ≡ number
IsOf events.Close step = step.input ≡ inputs.Closing

-- where these steps lead a server that was open, in an event: what the connections share, and each connection
pub record AreTakenIn (event : ServerEvent) (old : ServerState) (steps : List TakenStep) (new : ServerState) : Type 0 where
  pub first : Broker
  pub begins : BeginsWith event old.broker first
  pub broker : LeadBroker first steps new.broker
  pub phases : (number : ℕ) → LeadPhase (first_phase (opens event number) (record { at = new.clock; limits = inflight_alone old.max_inflight }) (client_at old.clients number)) (steps_of number steps) (phase_of (client_at new.clients number))
  pub each : AllByRecursion (IsOf event) steps
  -- a connection that is not open takes none
  pub closed : (number : ℕ) → client_at old.clients number ≡ None → steps_of number steps ≡ []

-- after the close there is none
abbrev pub AreTakenIf : Bool → ServerEvent → ServerState → List TakenStep → ServerState → Type 0
AreTakenIf true event old steps new = AreTakenIn event old steps new
AreTakenIf false event old steps new = (steps ≡ []) × (new.broker ≡ old.broker) × (new.clients ≡ old.clients)

-- The steps of an event: what is said in it is what these sent, each is a step of the step law, made at the moment of the server's clock then, they lead from
-- the server before the event to the server after it, and they answer what came in it.
pub record EventIsTaken (old : ServerState) (event : ServerEvent) (outputs : List StepOutput) (steps : List TakenStep) (new : ServerState) : Type 0 where
  pub outputs_are : outputs ≡ map output_of steps
  pub lawful : AllByRecursion IsLawfulStep steps
  pub made : AllByRecursion (λ step. step.at ≡ new.clock) steps
  pub lead : AreTakenIf (is_open old.broker) event old steps new
  pub answer : EventIsAnsweredIf (is_open old.broker) event old.clients (map conn_step_of steps) new.clients

-- the steps of a run, event by event
abbrev pub AllAreTaken : (old : ServerState) (events : List TimedEvent) (outputs : List StepOutput) (new : ServerState) → HappensAll old events outputs new → List TakenStep → Type 0
AllAreTaken old [] outputs new run steps = steps ≡ []
AllAreTaken old (first ∷ others) outputs new run steps =
    let mid = run.0 in
    (these later : List TakenStep) × EventIsTaken old first.event run.1 these mid × AllAreTaken mid others run.2 new run.4 later × (steps ≡ these ++ later)
