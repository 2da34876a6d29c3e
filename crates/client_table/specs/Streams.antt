-- What a client sent is read packet by packet, and each packet is stepped before the next one is read.
use Rattle.std.specs.Prelude.{◌≡◌, ◌≢◌, ℕ, ◌⊎◌, List, [], ◌∷◌, ◌++◌, Option, Some, None, Result, Ok, Err, ⊤}
use Rattle.mqtt_packet.specs.declared.packet.Packet.{Packet}
use Rattle.mqtt_fields.specs.declared.fault.StreamFault.{StreamFault}
use Rattle.mqtt_wire.specs.Stream.{Unread, Takes, Stops, IsOpen}
use Rattle.conn_supply.specs.declared.reply.Then.{Then}
use Rattle.conn_supply.specs.declared.reply.Then.TheVariants.{Go, Close, Kicked}
use Rattle.conn_supply.specs.SupplyCalls.{SupplyCall}
use Rattle.conn_supply.specs.declared.supply.NoMemory.{NoMemory}
use Rattle.conn_engine.specs.declared.input.Input.{Input}
use Rattle.conn_engine.specs.declared.input.Input.TheVariants as inputs
use Rattle.conn_engine.specs.Phases.{IsWaiting}
use Rattle.client_table.specs.declared.client.reading.Reading.{Reading}
use Rattle.client_table.specs.declared.client.reading.Reading.TheVariants as readings
use Rattle.client_table.specs.Clients.{ClientState, StepOutput, ClientSteps, ClientFailsToStep, IsGivenUp}

-- a further piece of a stream: after a fault nothing is read
abbrev pub longer : Option StreamFault → List ℕ → List ℕ → Unread
longer None bytes piece = record { bytes = bytes ++ piece; fault = None }
longer (Some fault) bytes piece = record { bytes = bytes; fault = Some fault }

-- the same client, after a further piece of its stream
abbrev pub fed : {P : Type 0} → ClientState P → List ℕ → ClientState P
fed client piece = record { conn = client.conn; unread = longer client.unread.fault client.unread.bytes piece }

-- no whole packet and no fault stands in front of a stream
abbrev pub HasNothingWhole : Unread → Type 0
HasNothingWhole unread = (unread.fault ≡ None) × IsOpen unread.bytes

-- nothing is to be read: the connection waits for a session, or no whole packet and no fault stands in front
abbrev pub IsRead : {P : Type 0} → ClientState P → Type 0
IsRead client = IsWaiting client.conn.phase ⊎ HasNothingWhole client.unread

-- the packet, or the fault, that stands in front of a stream
abbrev pub IsInFront : Unread → Input → Unread → Type 0
IsInFront unread (inputs.Packet packet) unread' = Takes unread packet unread'
IsInFront unread (inputs.Fault fault) unread' = Stops unread fault unread'
IsInFront unread inputs.Tick unread' = ⊥
IsInFront unread inputs.EndOfInput unread' = ⊥
IsInFront unread inputs.Closing unread' = ⊥

-- a fault closes the connection (4.13), and so does a packet after which it does not go on
abbrev pub Closes : Input → Then → Type 0
Closes (inputs.Packet packet) next = next ≢ Go
Closes (inputs.Fault fault) next = ⊤
Closes inputs.Tick next = ⊥
Closes inputs.EndOfInput next = ⊥
Closes inputs.Closing next = ⊥

-- a client goes on after a packet where its connection does
abbrev pub reading_behind : Then → Reading
reading_behind Go = readings.GoesOn
reading_behind Close = readings.Closed
reading_behind Kicked = readings.Closed

module _ {S P : Type 0} (call : S → SupplyCall P → S → Type 0) (slot_of : P → ℕ) where
  -- the packet in front is taken and stepped, and the connection goes on
  pub record ReadsOne (old : S) (client : ClientState P) (now : ℕ) (output : StepOutput) (client' : ClientState P) (new : S) : Type 0 where
    pub packet : Packet
    pub taken : Takes client.unread packet client'.unread
    pub moved : ClientSteps call slot_of old client now (inputs.Packet packet) output client' new
    pub goes : output.next ≡ Go

  -- what is in front is taken and stepped, and the connection is closed by it
  pub record ReadsLast (old : S) (client : ClientState P) (now : ℕ) (output : StepOutput) (client' : ClientState P) (new : S) : Type 0 where
    pub input : Input
    pub front : IsInFront client.unread input client'.unread
    pub moved : ClientSteps call slot_of old client now input output client' new
    pub closes : Closes input output.next

  -- all that is whole is read at one moment, each packet stepped before the next one is read: until the connection closes or waits, or
  -- nothing whole stands in front. What each step wrote, in their order
  abbrev pub Reads : S → ClientState P → ℕ → List StepOutput → ClientState P → S → Type 0
  Reads old client now [] client' new = IsRead client × (client' ≡ client) × (new ≡ old)
  Reads old client now (output ∷ rest) client' new =
      (ReadsLast old client now output client' new × (rest ≡ []))
      ⊎ ((between : ClientState P) × (mid : S) × ReadsOne old client now output between mid × Reads mid between now rest client' new)

  -- an allocation failed for the next step: the connection has ended
  abbrev pub FailsToReadOne : S → ClientState P → ℕ → ClientState P → S → Type 0
  FailsToReadOne old client now client' new =
      IsGivenUp call slot_of old client now inputs.EndOfInput client' new
      ⊎ ((input : Input) × IsInFront client.unread input client'.unread × ClientFailsToStep call slot_of old client now input client' new)

  -- an allocation failed after so many steps, which are as ever
  abbrev pub FailsToRead : S → ClientState P → ℕ → List StepOutput → ClientState P → S → Type 0
  FailsToRead old client now [] client' new = FailsToReadOne old client now client' new
  FailsToRead old client now (output ∷ rest) client' new =
      (between : ClientState P) × (mid : S) × ReadsOne old client now output between mid × FailsToRead mid between now rest client' new

  -- time goes on: after that is read what came while the connection waited
  abbrev pub Ticks : S → ClientState P → ℕ → List StepOutput → ClientState P → S → Type 0
  Ticks old client now [] client' new = ⊥
  Ticks old client now (output ∷ rest) client' new =
      (ClientSteps call slot_of old client now inputs.Tick output client' new × (output.next ≢ Go) × (rest ≡ []))
      ⊎ ((between : ClientState P) × (mid : S) × ClientSteps call slot_of old client now inputs.Tick output between mid × (output.next ≡ Go) × Reads mid between now rest client' new
      × (between.unread ≡ client.unread))

  abbrev pub FailsToTick : S → ClientState P → ℕ → List StepOutput → ClientState P → S → Type 0
  FailsToTick old client now [] client' new = IsGivenUp call slot_of old client now inputs.EndOfInput client' new ⊎ ClientFailsToStep call slot_of old client now inputs.Tick client' new
  FailsToTick old client now (output ∷ rest) client' new =
      (between : ClientState P) × (mid : S) × ClientSteps call slot_of old client now inputs.Tick output between mid × (output.next ≡ Go) × FailsToRead mid between now rest client' new
      × (between.unread ≡ client.unread)

  -- one last step, and what was said before and after; memory may be wanted in it or for it
  abbrev pub Leaves : S → ClientState P → ℕ → Input → List StepOutput → Result (Unit {0}) NoMemory → List StepOutput → ClientState P → S → Type 0
  Leaves old client now input before (Ok done) after client' new = (output : StepOutput) × (after ≡ before ++ output ∷ []) × ClientSteps call slot_of old client now input output client' new
  Leaves old client now input before (Err error) after client' new = (after ≡ before) × IsGivenUp call slot_of old client now input client' new

  -- what came of reading once, and what was said before and after
  abbrev pub ReadsAs : Reading → S → ClientState P → ℕ → List StepOutput → List StepOutput → ClientState P → S → Type 0
  ReadsAs readings.Nothing old client now before after client' new = IsRead client × (client' ≡ client) × (new ≡ old) × (after ≡ before)
  ReadsAs readings.GoesOn old client now before after client' new = (output : StepOutput) × (after ≡ before ++ output ∷ []) × ReadsOne old client now output client' new
  ReadsAs readings.Closed old client now before after client' new = (output : StepOutput) × (after ≡ before ++ output ∷ []) × ReadsLast old client now output client' new
