-- The steps that answer what is read of a client's stream.
use Rattle.std.proofs.Common.{◌≡◌, ◌≤◌, ℕ, List, [], ◌∷◌, ◌++◌, Option, Some, None, refl, sym, ap, subst, ◌∙◌, ⊎_elim}
use Rattle.std.specs.Prelude.{⊤}
use Rattle.std.proofs.Math.Nat.{le_refl, max-eq_right}
use Rattle.mqtt_fields.specs.declared.fault.StreamFault.{StreamFault}
use Rattle.mqtt_packet.specs.declared.packet.Packet.{Packet}
use Rattle.mqtt_wire.specs.Stream.{Unread, Takes, Stops, FaultAt}
use Rattle.conn_supply.specs.declared.reply.Then.{Then}
use Rattle.conn_supply.specs.declared.reply.Then.TheVariants.{Go}
use Rattle.conn_engine.specs.declared.input.Input.{Input}
use Rattle.conn_engine.specs.declared.input.Input.TheVariants as inputs
use Rattle.conn_engine.specs.declared.phase.ConnPhase.{ConnPhase}
use Rattle.conn_engine.specs.declared.phase.ConnPhase.TheVariants.{Unconnected, Waiting, Connected, Ended}
use Rattle.client_table.specs.Cells.{kept_as}
use Rattle.client_table.specs.Clients.{ClientState, moment_of}
use Rattle.client_table.specs.Streams.{longer, fed, IsRead, IsInFront}
use Rattle.local_broker.specs.Places.{GroupPlace}
use Rattle.local_server.specs.ConnSteps.{ConnStep, AreMadeAt}
use Rattle.local_server.specs.Streams.{StandsInFront, IsLeftTo, ReadsFrom, TickIsAnswered, LastIsAnswered}

-- a step of this connection at this moment, which answers this input
pub record Answers (number now : ℕ) (input : Input) (next : Then) (conn_step : ConnStep) : Type 0 where
  pub whose : conn_step.connection ≡ number
  pub at_is : conn_step.at ≡ now
  pub input_is : conn_step.input ≡ input
  pub next_is : conn_step.next ≡ next

abbrev pub IsStep : ℕ → ℕ → Input → Then → List ConnStep → Type 0
IsStep number now input next conn_steps = (conn_step : ConnStep) × (conn_steps ≡ conn_step ∷ []) × Answers number now input next conn_step

-- steps answer so, each of them made at this moment
abbrev pub AllAt : ℕ → (List ConnStep → Type 0) → List ConnStep → Type 0
AllAt now AnswerSo conn_steps = AreMadeAt now conn_steps × AnswerSo conn_steps

-- the last step of a connection, where it is open
abbrev pub EndsSteps : ℕ → Input → Option (ClientState GroupPlace) → List ConnStep → Type 0
EndsSteps number input None conn_steps = conn_steps ≡ []
EndsSteps number input (Some client) conn_steps = (conn_step : ConnStep) × (conn_steps ≡ conn_step ∷ []) × (conn_step.connection ≡ number) × (conn_step.input ≡ input)

pub one_ends : (number now : ℕ) (input : Input) (next : Then) (client : ClientState GroupPlace) (conn_steps : List ConnStep) → IsStep number now input next conn_steps
    → AllAt now (EndsSteps number input (Some client)) conn_steps
one_ends number now input next client conn_steps one = (subst (AreMadeAt now) (sym one.1) (one.2.at_is, tt), (one.0, one.1, one.2.whose, one.2.input_is))

pub ends_heard : (number : ℕ) (input : Input) (client : Option (ClientState GroupPlace)) (conn_steps : List ConnStep) → EndsSteps number input client conn_steps → LastIsAnswered input client conn_steps
ends_heard number input None conn_steps ends = ends
ends_heard number input (Some client) conn_steps ends = (ends.0, ends.1, ends.3)

-- no fault was met in the stream of the client that is here, where one is, and nothing came to it after this moment
abbrev pub IsSound : ℕ → Option (ClientState GroupPlace) → Type 0
IsSound now None = ⊤
IsSound now (Some client) = (client.unread.fault ≡ None) × (client.conn.latest ≤ now)

-- where nothing came to a client after this moment, its next step is made then, and nothing came to it later
pub made_now : (client : ClientState GroupPlace) (now : ℕ) → client.conn.latest ≤ now → moment_of client now ≡ now
made_now client now timely = max-eq_right timely

pub still_timely : (client after : ClientState GroupPlace) (now : ℕ) → client.conn.latest ≤ now → after.conn.latest ≡ moment_of client now → after.conn.latest ≤ now
still_timely client after now timely is = subst (λ (n : ℕ). n ≤ now) (sym (is ∙ made_now client now timely)) (le_refl now)

-- what is unread, with a further piece after it
longer_none : (fault : Option StreamFault) (bytes piece : List ℕ) → fault ≡ None → longer fault bytes piece ≡ record { bytes = bytes ++ piece; fault = None }
longer_none None bytes piece is = refl
longer_none (Some fault) bytes piece is = absurd (cc)

pub fed_unread : (client : ClientState GroupPlace) (piece : List ℕ) → client.unread.fault ≡ None
    → (fed client piece).unread ≡ record { bytes = client.unread.bytes ++ piece; fault = None }
fed_unread client piece sound = longer_none client.unread.fault client.unread.bytes piece sound

-- a client that has read what is whole
pub left_to : (phase : ConnPhase GroupPlace) (client : ClientState GroupPlace) → IsRead client → IsLeftTo (kept_as phase client) client.unread.bytes
left_to (Unconnected opened) client read = (refl, read)
left_to (Waiting request ticks) client read = (refl, read)
left_to (Connected connected) client read = (refl, read)
left_to Ended client read = tt

-- what stood in front
stopped_at : (unread unread' : Unread) (fault : StreamFault) → unread.fault ≡ None → Stops unread fault unread' → StandsInFront (inputs.Fault fault) unread.bytes unread'.bytes
stopped_at unread unread' fault sound stops = (
  ⊎_elim
      (λ (earlier : unread.fault ≡ Some fault). absurd (let e = sym earlier ∙ sound in cc))
      (λ (now : (unread.fault ≡ None) × FaultAt fault unread.bytes). now.1)
      stops.1,
  ap (λ (u : Unread). u.bytes) stops.0,
)

in_front : (input : Input) (unread unread' : Unread) → unread.fault ≡ None → IsInFront unread input unread' → StandsInFront input unread.bytes unread'.bytes
in_front (inputs.Packet packet) unread unread' sound takes = (takes.front, takes.spelled, takes.parts)
in_front (inputs.Fault fault) unread unread' sound stops = stopped_at unread unread' fault sound stops
in_front inputs.Tick unread unread' sound none = absurd none
in_front inputs.EndOfInput unread unread' sound none = absurd none
in_front inputs.Closing unread unread' sound none = absurd none

-- nothing is left to a connection that has ended
ended : (after : Option (ClientState GroupPlace)) (rest : List ℕ) → after ≡ None → IsLeftTo after rest
ended after rest is = subst (λ (c : Option (ClientState GroupPlace)). IsLeftTo c rest) (sym is) tt

-- a packet is read, and then what is after it
pub read_first : (number now : ℕ) (packet : Packet) (next : Then) (unread between : Unread) (after : Option (ClientState GroupPlace)) (these those : List ConnStep)
    → Takes unread packet between → next ≡ Go → IsStep number now (inputs.Packet packet) next these → AllAt now (λ more. ReadsFrom between.bytes more after) those
    → AllAt now (λ more. ReadsFrom unread.bytes more after) (these ++ those)
read_first number now packet next unread between after these those takes goes one from =
    let conn_step = one.0 in
    let is = one.2 in
    subst (λ (ts : List ConnStep). AllAt now (λ more. ReadsFrom unread.bytes more after) (ts ++ those)) (sym one.1) (
      (is.at_is, from.0),
      (
        from.1.0,
        (
          between.bytes,
          subst (λ (i : Input). StandsInFront i unread.bytes between.bytes) (sym is.input_is) (takes.front, takes.spelled, takes.parts),
          λ stops. absurd (stops (is.next_is ∙ goes)),
          from.1.1,
        ),
        from.1.2,
      ),
    )

-- it is read, and the connection ends by it
pub read_last : (number now : ℕ) (input : Input) (next : Then) (unread unread' : Unread) (after : Option (ClientState GroupPlace)) (these : List ConnStep) → unread.fault ≡ None
    → IsInFront unread input unread' → after ≡ None → IsStep number now input next these → AllAt now (λ more. ReadsFrom unread.bytes more after) these
read_last number now input next unread unread' after these sound front over one =
    subst (AllAt now (λ more. ReadsFrom unread.bytes more after)) (sym one.1) (
      (one.2.at_is, tt),
      (
        unread'.bytes,
        (unread'.bytes, subst (λ (i : Input). StandsInFront i unread.bytes unread'.bytes) (sym one.2.input_is) (in_front input unread unread' sound front), λ stops. refl, refl),
        ended after unread'.bytes over,
      ),
    )

-- a Tick, by which the connection ends
pub tick_last : (number now : ℕ) (next : Then) (client : ClientState GroupPlace) (after : Option (ClientState GroupPlace)) (these : List ConnStep) → after ≡ None
    → IsStep number now inputs.Tick next these → AllAt now (λ more. TickIsAnswered (Some client) more after) these
tick_last number now next client after these over one =
    subst (AllAt now (λ more. TickIsAnswered (Some client) more after)) (sym one.1)
    ((one.2.at_is, tt), (one.2.input_is, λ stops. refl, (client.unread.bytes, refl, ended after client.unread.bytes over)))

-- a Tick, and then what is read
pub tick_first : (number now : ℕ) (next : Then) (client between : ClientState GroupPlace) (after : Option (ClientState GroupPlace)) (these those : List ConnStep)
    → between.unread ≡ client.unread → next ≡ Go → IsStep number now inputs.Tick next these → AllAt now (λ more. ReadsFrom between.unread.bytes more after) those
    → AllAt now (λ more. TickIsAnswered (Some client) more after) (these ++ those)
tick_first number now next client between after these those same goes one from =
    subst (λ (ts : List ConnStep). AllAt now (λ more. TickIsAnswered (Some client) more after) (ts ++ those)) (sym one.1) (
      (one.2.at_is, from.0),
      (one.2.input_is, λ stops. absurd (stops (one.2.next_is ∙ goes)), subst (λ (u : Unread). ReadsFrom u.bytes those after) same from.1),
    )
