-- What an event makes of a server on one thread, and what is said in it.
use Rattle.std.specs.Prelude.{◌≡◌, ℕ, zero, suc, max, Bool, true, false, List, [], ◌∷◌, ◌++◌, Result, Ok}
use Rattle.std.specs.Result.{result_and}
use Rattle.conn_rules.specs.Connecting.{inflight_alone}
use Rattle.conn_supply.specs.declared.supply.NoMemory.{NoMemory}
use Rattle.conn_engine.specs.declared.input.Input.TheVariants as inputs
use Rattle.client_table.specs.Clients.{StepOutput}
use Rattle.client_table.specs.Cells.{InCell, Opens, Receives, TicksFor, EndsFor}
use Rattle.local_broker.specs.Places.{GroupPlace}
use Rattle.local_broker.specs.Broker.{Broker, is_open}
use Rattle.local_broker.specs.Calls.{Calls, Closes}
use Rattle.local_server.specs.declared.event.ServerEvent.{ServerEvent}
use Rattle.local_server.specs.declared.event.ServerEvent.TheVariants as events
use Rattle.local_server.specs.declared.event.TimedEvent.{TimedEvent}
use Rattle.local_server.specs.Servers.{Clients, ServerState}

-- the group of a place
abbrev pub slot_of : GroupPlace → ℕ
slot_of place = place.slot

-- the connection of this number is told that the server closes, where it is open, and ends
abbrev pub EndsAt : ℕ → Broker → Clients → ℕ → List StepOutput → Result (Unit {0}) NoMemory → Clients → Broker → Type 0
EndsAt number old clients now outputs result clients' new =
    InCell clients number (λ before after. EndsFor Calls slot_of old before now inputs.Closing outputs result after new) clients'

-- So many connections are told one after the other, that of the least number first, and end; where an allocation failed for one, the next is
-- told all the same.
abbrev pub EndsFirst : ℕ → Broker → Clients → ℕ → List StepOutput → Result (Unit {0}) NoMemory → Clients → Broker → Type 0
EndsFirst zero old clients now outputs result clients' new = (outputs ≡ []) × (result ≡ Ok tt) × (clients' ≡ clients) × (new ≡ old)
EndsFirst (suc number) old clients now outputs result clients' new =
    (mid : Broker) × (between : Clients) × (earlier last : List StepOutput) × (before then : Result (Unit {0}) NoMemory)
    × EndsFirst number old clients now earlier before between mid × EndsAt number mid between now last then clients' new
    × (outputs ≡ earlier ++ last) × (result ≡ result_and before then)

-- the close: the groups first, and then each of the 64 connections
abbrev pub ClosesAll : Broker → Clients → ℕ → List StepOutput → Result (Unit {0}) NoMemory → Clients → Broker → Type 0
ClosesAll old clients now outputs result clients' new =
    (closed : Broker) × Closes old closed × (many : ℕ) × (many ≡ 64) × EndsFirst many closed clients now outputs result clients' new

-- an event, at this moment, of a server that is open, where a connection is opened with this limit, and no other: what is said, and what becomes of the server; or an allocation failed
abbrev pub Does : ServerEvent → ℕ → Broker → Clients → ℕ → List StepOutput → Result (Unit {0}) NoMemory → Clients → Broker → Type 0
Does (events.Open number) max_inflight old clients now outputs result clients' new =
    InCell clients number (Opens number (record { at = now; limits = inflight_alone max_inflight })) clients' × (new ≡ old) × (outputs ≡ []) × (result ≡ Ok tt)
Does (events.Bytes number piece) max_inflight old clients now outputs result clients' new =
    InCell clients number (λ before after. Receives Calls slot_of old before now piece outputs result after new) clients'
Does (events.Tick number) max_inflight old clients now outputs result clients' new =
    InCell clients number (λ before after. TicksFor Calls slot_of old before now outputs result after new) clients'
Does (events.End number) max_inflight old clients now outputs result clients' new =
    InCell clients number (λ before after. EndsFor Calls slot_of old before now inputs.EndOfInput outputs result after new) clients'
Does events.Close max_inflight old clients now outputs result clients' new = ClosesAll old clients now outputs result clients' new

-- after the close events are passed over
abbrev pub DoesIf : Bool → ServerEvent → ℕ → Broker → Clients → ℕ → List StepOutput → Result (Unit {0}) NoMemory → Clients → Broker → Type 0
DoesIf true event max_inflight old clients now outputs result clients' new = Does event max_inflight old clients now outputs result clients' new
DoesIf false event max_inflight old clients now outputs result clients' new = (outputs ≡ []) × (result ≡ Ok tt) × (clients' ≡ clients) × (new ≡ old)

-- an event at a moment
pub record Happens (old : ServerState) (moment : ℕ) (event : ServerEvent) (outputs : List StepOutput) (result : Result (Unit {0}) NoMemory) (new : ServerState) : Type 0 where
  -- where the clock went back, the later moment stands
  pub clock : new.clock ≡ max old.clock moment
  pub max_inflight : new.max_inflight ≡ old.max_inflight
  pub does : DoesIf (is_open old.broker) event old.max_inflight old.broker old.clients new.clock outputs result new.clients new.broker

-- one event after another, and what is said in them
abbrev pub HappensAll : ServerState → List TimedEvent → List StepOutput → ServerState → Type 0
HappensAll old [] outputs new = (outputs ≡ []) × (new ≡ old)
HappensAll old (first ∷ others) outputs new =
    (mid : ServerState) × (now later : List StepOutput)
    × Happens old first.moment first.event now (Ok tt) mid × HappensAll mid others later new × (outputs ≡ now ++ later)
