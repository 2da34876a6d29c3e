-- What each act makes of a connection that is served and of its supply; and whole lives of such acts.
use Rattle.std.specs.Prelude.{◌≡◌, ◌≢◌, ◌⊎◌, ℕ, ◌<◌, ◌≤◌, Bool, true, false, List, [], ◌∷◌, ◌++◌, length, Option, Some, None}
use Rattle.mqtt_packet.specs.declared.packet.Packet.{Packet}
use Rattle.mqtt_wire.specs.Stream.{Unread}
use Rattle.transport.specs.declared.counts.Counts.{Counts}
use Rattle.conn_supply.specs.declared.reply.Then.{Then}
use Rattle.conn_supply.specs.SupplyCalls.{SupplyCall}
use Rattle.conn_supply.specs.SupplyCalls.SupplyCall.{Kicked}
use Rattle.conn_engine.specs.declared.input.Input.{Input}
use Rattle.conn_engine.specs.declared.input.Input.TheVariants as inputs
use Rattle.conn_engine.specs.declared.phase.ConnPhase.TheVariants.{Ended}
use Rattle.conn_engine.specs.Looking.{IsSilentTooLong}
use Rattle.client_table.specs.Clients.{step_output, ClientSteps, ClientFailsToStep, IsGivenUp}
use Rattle.client_table.specs.Streams.{IsRead, IsInFront}
use Rattle.conn_service.specs.declared.served.Served.TheVariants as served
use Rattle.conn_service.specs.Services.{ServiceState, bytes_of, write_room, most_packets}
use Rattle.conn_service.specs.Acts.{Act, Enters, Leaves, Asks, Reads, Writes, Steps, Loses, Fails, Starves, IsFull, IsStopped, Stalls, GivesUp, Ends, Others, BeginsByWriting, packets_in}
use Rattle.conn_service.specs.Visits.{Stand, Outside, Behind, Walks}
use Rattle.conn_service.specs.Moments.{ticked_by, since_step, still_drained}
use Rattle.conn_service.specs.Edges.{DoesAtEdge}

-- what is unread after an input: a packet or a fault is taken from the front; time, the end and the close take nothing
abbrev pub TakesFront : Unread → Input → Unread → Type 0
TakesFront unread (inputs.Packet packet) unread' = IsInFront unread (inputs.Packet packet) unread'
TakesFront unread (inputs.Fault fault) unread' = IsInFront unread (inputs.Fault fault) unread'
TakesFront unread inputs.Tick unread' = unread' ≡ unread
TakesFront unread inputs.EndOfInput unread' = unread' ≡ unread
TakesFront unread inputs.Closing unread' = unread' ≡ unread

module _ {S P T : Type 0} (call : S → SupplyCall P → S → Type 0) (begins ends : S → S → Type 0) (visiting : S → Bool) (slot_of : P → ℕ)
    (counts : T → Counts) (given accepted : T → Option (List ℕ)) where
  -- when an input may be stepped: a packet or a fault within a visit, where there is room for what is said; a Tick within a visit, where nothing
  -- waits to be written, or the connection is overdue, or the supply has just said that it is taken over, which a peer that does not read must not hold
  -- up; the end of the stream within a visit, where the transport has ended, and all that is whole was stepped; the close where the supply is shut
  abbrev pub MayStep : Input → ℕ → ServiceState P T → S → Type 0
  MayStep (inputs.Packet packet) now service supply = (visiting supply ≡ true) × (length service.outgoing < write_room)
  MayStep (inputs.Fault fault) now service supply = (visiting supply ≡ true) × (length service.outgoing < write_room)
  MayStep inputs.Tick now service supply =
      (visiting supply ≡ true)
      × ((service.outgoing ≡ [])
      ⊎ (IsSilentTooLong service.client.conn.phase now ⊎ ((asked : S) × call asked (Kicked service.client.conn.number true) supply)))
  MayStep inputs.EndOfInput now service supply = (visiting supply ≡ true) × (service.at_end ≡ true) × IsRead service.client
  MayStep inputs.Closing now service supply = visiting supply ≡ false

  pub record IsDue (input : Input) (now : ℕ) (service : ServiceState P T) (supply : S) : Type 0 where
    pub going : service.ending ≡ None
    pub not_over : service.client.conn.phase ≢ Ended
    pub may : MayStep input now service supply

  -- a visit begins, unless the supply is shut; a round that reads forgets that an earlier read gave less than there was room for
  pub record BeginsVisit (is_open reads : Bool) (old : ServiceState P T) (supply : S) (new : ServiceState P T) (supply' : S) : Type 0 where
    pub begun : begins supply supply'
    pub told : visiting supply' ≡ is_open
    pub becomes : new ≡ record old { drained = still_drained reads old.drained }

  pub record EndsVisit (old : ServiceState P T) (supply : S) (new : ServiceState P T) (supply' : S) : Type 0 where
    pub ended : ends supply supply'
    pub same : new ≡ old

  -- the supply says whether another connection asked for its session
  pub record AsksOnce (is_kicked : Bool) (old : ServiceState P T) (supply : S) (new : ServiceState P T) (supply' : S) : Type 0 where
    pub asked : call supply (Kicked old.client.conn.number is_kicked) supply'
    pub same : new ≡ old

  -- one step, whose packets wait to be written
  pub record StepsOnce (now : ℕ) (input : Input) (packets : List Packet) (next : Then) (old : ServiceState P T) (supply : S) (new : ServiceState P T) (supply' : S) : Type 0 where
    pub due : IsDue input now old supply
    pub front : TakesFront old.client.unread input new.client.unread
    pub moved : ClientSteps call slot_of supply old.client now input (step_output old.client.conn.number packets next) new.client supply'
    pub becomes : new ≡ record old {
      client = new.client;
      outgoing = old.outgoing ++ bytes_of packets;
      since = since_step old.outgoing now old.since;
      ticked = ticked_by input now old.ticked;
    }

  -- one step, for whose packets there was no memory: with what waits they have more bytes than there is room for from the start
  pub record LosesPackets (now : ℕ) (input : Input) (packets : List Packet) (next : Then) (old : ServiceState P T) (supply : S) (new : ServiceState P T) (supply' : S) : Type 0 where
    pub due : IsDue input now old supply
    pub front : TakesFront old.client.unread input new.client.unread
    pub moved : ClientSteps call slot_of supply old.client now input (step_output old.client.conn.number packets next) new.client supply'
    pub full : write_room < length (old.outgoing ++ bytes_of packets)
    pub becomes : new ≡ record old { client = new.client; ticked = ticked_by input now old.ticked; ending = Some served.Memory }

  -- one step in which an allocation failed
  pub record FailsOnce (now : ℕ) (input : Input) (old : ServiceState P T) (supply : S) (new : ServiceState P T) (supply' : S) : Type 0 where
    pub due : IsDue input now old supply
    pub front : TakesFront old.client.unread input new.client.unread
    pub failed : ClientFailsToStep call slot_of supply old.client now input new.client supply'
    pub becomes : new ≡ record old { client = new.client; ticked = ticked_by input now old.ticked; ending = Some served.Memory }

  -- there was no memory for the packet in front: the connection is given up
  pub record IsFullUp (now : ℕ) (old : ServiceState P T) (supply : S) (new : ServiceState P T) (supply' : S) : Type 0 where
    pub going : old.ending ≡ None
    pub not_over : old.client.conn.phase ≢ Ended
    pub given_up : IsGivenUp call slot_of supply old.client now inputs.EndOfInput new.client supply'
    pub becomes : new ≡ record old { client = new.client; ending = Some served.Memory }

  -- after an end without its last step, the connection is given up
  pub record IsAbandoned (now : ℕ) (old : ServiceState P T) (supply : S) (new : ServiceState P T) (supply' : S) : Type 0 where
    pub ended : old.ending ≢ None
    pub not_over : old.client.conn.phase ≢ Ended
    pub given_up : IsGivenUp call slot_of supply old.client now inputs.EndOfInput new.client supply'
    pub becomes : new ≡ record old { client = new.client }

  -- an act towards the transport, of which the supply knows nothing
  pub record TurnsToEdge (act : Act) (old : ServiceState P T) (supply : S) (new : ServiceState P T) (supply' : S) : Type 0 where
    pub does : DoesAtEdge counts given accepted act old new
    pub same : supply' ≡ supply

  -- what an act makes of the connection and its supply
  abbrev pub Does : Act → ServiceState P T → S → ServiceState P T → S → Type 0
  Does (Enters is_open reads) old supply new supply' = BeginsVisit is_open reads old supply new supply'
  Does Leaves old supply new supply' = EndsVisit old supply new supply'
  Does (Asks is_kicked) old supply new supply' = AsksOnce is_kicked old supply new supply'
  Does (Steps now input packets next) old supply new supply' = StepsOnce now input packets next old supply new supply'
  Does (Loses now input packets next) old supply new supply' = LosesPackets now input packets next old supply new supply'
  Does (Fails now input) old supply new supply' = FailsOnce now input old supply new supply'
  Does (IsFull now) old supply new supply' = IsFullUp now old supply new supply'
  Does (GivesUp now) old supply new supply' = IsAbandoned now old supply new supply'
  Does Others old supply new supply' = new ≡ old
  Does (Reads size got bytes) old supply new supply' = TurnsToEdge (Reads size got bytes) old supply new supply'
  Does (Starves got bytes) old supply new supply' = TurnsToEdge (Starves got bytes) old supply new supply'
  Does (Writes now put) old supply new supply' = TurnsToEdge (Writes now put) old supply new supply'
  Does IsStopped old supply new supply' = TurnsToEdge IsStopped old supply new supply'
  Does (Stalls now) old supply new supply' = TurnsToEdge (Stalls now) old supply new supply'
  Does Ends old supply new supply' = TurnsToEdge Ends old supply new supply'

  -- these acts, one after the other
  abbrev pub DoesAll : List Act → ServiceState P T → S → ServiceState P T → S → Type 0
  DoesAll [] old supply new supply' = (new ≡ old) × (supply' ≡ supply)
  DoesAll (act ∷ acts) old supply new supply' = (between : ServiceState P T) × (mid : S) × Does act old supply between mid × DoesAll acts between mid new supply'

  -- some acts, at this moment, from this stand to that, lead from the one to the other
  pub record Leads (now : ℕ) (from to : Stand) (old : ServiceState P T) (supply : S) (new : ServiceState P T) (supply' : S) : Type 0 where
    pub acts : List Act
    pub does : DoesAll acts old supply new supply'
    pub walks : Walks now from acts to

  -- a round at this moment leads from the one to the other: nobody else uses the supply within it, and its one visit ends within it. What waits is written to
  -- the transport first, where the connection goes on; and no more than 64 packets are stepped
  pub record Rounds (now : ℕ) (old : ServiceState P T) (supply : S) (new : ServiceState P T) (supply' : S) : Type 0 where
    pub led : Leads now Outside Behind old supply new supply'
    pub asks : old.outgoing ≢ [] → new.ending ≡ None → BeginsByWriting led.acts
    pub few : packets_in led.acts ≤ most_packets

  -- rounds, one after the other, and nobody else uses the supply between them
  abbrev pub RoundsAll : List ℕ → ServiceState P T → S → ServiceState P T → S → Type 0
  RoundsAll [] old supply new supply' = (new ≡ old) × (supply' ≡ supply)
  RoundsAll (now ∷ moments) old supply new supply' = (between : ServiceState P T) × (mid : S) × Rounds now old supply between mid × RoundsAll moments between mid new supply'

  -- these are the acts of rounds at these moments, one after the other; in front of each, others use the supply
  abbrev pub LivesBy : List ℕ → List Act → ServiceState P T → S → ServiceState P T → S → Type 0
  LivesBy [] acts old supply new supply' = (acts ≡ []) × (new ≡ old) × (supply' ≡ supply)
  LivesBy (now ∷ moments) acts old supply new supply' =
      (entry : S) × (between : ServiceState P T) × (mid : S) × (round : Rounds now old entry between mid) × (rest : List Act) × (acts ≡ Others ∷ (round.led.acts ++ rest))
      × LivesBy moments rest between mid new supply'

  -- a life leads from the one to the other
  pub record Lives (old : ServiceState P T) (supply : S) (new : ServiceState P T) (supply' : S) : Type 0 where
    pub acts : List Act
    pub does : DoesAll acts old supply new supply'
    pub moments : List ℕ
    pub lived : LivesBy moments acts old supply new supply'
