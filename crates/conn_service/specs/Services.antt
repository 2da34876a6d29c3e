-- A connection that is served: its client, its transport, and what is still to be written to it.
use Rattle.std.specs.Prelude.{◌≡◌, ◌≢◌, ◌⊎◌, ℕ, ◌-◌, ◌<◌, ◌≤◌, Bool, true, false, List, [], Option, Some, None}
use Rattle.std.specs.List.{flat_map}
use Rattle.mqtt_packet.specs.declared.packet.Packet.{Packet}
use Rattle.mqtt_wire.specs.Writing.{written}
use Rattle.transport.specs.declared.counts.Counts.{Counts}
use Rattle.conn_engine.specs.declared.phase.Opening.{Opening}
use Rattle.conn_engine.specs.declared.phase.ConnPhase.{ConnPhase}
use Rattle.conn_engine.specs.declared.phase.ConnPhase.TheVariants.{Unconnected, Waiting, Connected, Ended}
use Rattle.conn_engine.specs.Phases.{IsWaiting}
use Rattle.client_table.specs.Clients.{ClientState, arrived}
use Rattle.client_table.specs.Streams.{IsRead}
use Rattle.conn_service.specs.declared.served.Served.{Served}
use Rattle.conn_service.specs.declared.served.Round.{Round}
use Rattle.conn_service.specs.declared.served.Round.TheVariants as rounds

-- a connection as it is served
pub record ServiceState (P T : Type 0) : Type 0 where
  pub client : ClientState P
  pub transport : T
  -- the bytes of packets that the transport has not taken
  pub outgoing : List ℕ
  -- the moment since which it has taken none of them, and how many writes gave nothing since then, counted up to 600
  pub since : ℕ
  pub refused : ℕ
  -- the moment of the latest Tick, or of the opening
  pub ticked : ℕ
  -- how many bytes of its stream were kept since it waits for its session, counted up to 65,536
  pub kept : ℕ
  -- the latest read gave less than there was room for, and no round that reads has begun a visit since
  pub drained : Bool
  -- the transport has ended
  pub at_end : Bool
  -- how it has ended, if it has
  pub ending : Option Served

-- the one written form of these packets, one after the other
abbrev pub bytes_of : List Packet → List ℕ
bytes_of packets = flat_map written packets

-- how many bytes may wait to be written before a further packet is stepped: 16 KiB
abbrev pub write_room : ℕ
write_room = 16384

-- how many packets a round steps at most: 64
abbrev pub most_packets : ℕ
most_packets = 64

-- how many bytes of its stream may be kept, while a connection waits for its session, before it is not read any more: 64 KiB
abbrev pub kept_room : ℕ
kept_room = 65536

-- a buffer of this length, of which so much at the front is written, has room for as much
pub record IsKeptIn (written length capacity : ℕ) : Type 0 where
  pub within : written ≤ length
  pub room : write_room ≤ capacity

-- after how many milliseconds without a Tick a round makes one
abbrev pub tick_period : ℕ
tick_period = 50

-- for how many milliseconds a transport may take nothing of what waits: 60 seconds, and a second where the connection has ended
abbrev pub patience : {P : Type 0} → ConnPhase P → ℕ
patience (Unconnected opened) = 60000
patience (Waiting request ticks) = 60000
patience (Connected connected) = 60000
patience Ended = 1000

-- how many writes in a row may give nothing, where each of them waits: 600
abbrev pub most_refused : ℕ
most_refused = 600

-- the transport may be called: it has not failed, and has ended once at most
pub record IsCounted (counts : Counts) (at_end : Bool) (ending : Option Served) : Type 0 where
  pub whole : ending ≡ None → counts.failures ≡ 0
  pub unended : at_end ≡ false → counts.ends ≡ 0
  pub once : counts.ends ≤ 1

-- a connection that was opened so, over a transport of which nothing was asked yet
abbrev pub opened : {P T : Type 0} → ℕ → Opening → T → ServiceState P T
opened number opening transport = record {
  client = arrived (record { number = number; latest = opening.at; phase = Unconnected opening });
  transport = transport;
  outgoing = [];
  since = opening.at;
  refused = 0;
  ticked = opening.at;
  kept = 0;
  drained = false;
  at_end = false;
  ending = None;
}

-- all that came and is whole was answered, or the connection is over
abbrev pub IsAnswered : {P T : Type 0} → ServiceState P T → Type 0
IsAnswered service = IsRead service.client ⊎ (service.client.conn.phase ≡ Ended)

-- it waits for its session, and has kept as much of its stream meanwhile as it may
abbrev pub KeepsEnough : {P T : Type 0} → ServiceState P T → Type 0
KeepsEnough service = IsWaiting service.client.conn.phase × (kept_room ≤ service.kept)

-- no more can be done at once, where nothing waits to be written: a read gave less than there was room for, it is over, or it waits for its session and
-- keeps enough
abbrev pub HasNoMore : {P T : Type 0} → ServiceState P T → Type 0
HasNoMore service = (service.drained ≡ true) ⊎ ((service.client.conn.phase ≡ Ended) ⊎ KeepsEnough service)

-- nothing was asked of the transport, and the latest Tick was at this moment
pub record KeepsEdgeAt {P T : Type 0} (ticked : ℕ) (old new : ServiceState P T) : Type 0 where
  pub ticked_is : new.ticked ≡ ticked
  pub drained : new.drained ≡ old.drained
  pub at_end : new.at_end ≡ old.at_end
  pub transport : new.transport ≡ old.transport

abbrev pub KeepsEdge : {P T : Type 0} → ServiceState P T → ServiceState P T → Type 0
KeepsEdge old new = KeepsEdgeAt old.ticked old new

-- time is kept: less than 50 milliseconds have gone by since the latest Tick
abbrev pub IsOnTime : {P T : Type 0} → ServiceState P T → ℕ → Type 0
IsOnTime service now = now - service.ticked < tick_period

-- a connection that is not over is answered, and on time
abbrev pub IsServed : {P T : Type 0} → ServiceState P T → ℕ → Type 0
IsServed service now = (service.client.conn.phase ≡ Ended) ⊎ (IsRead service.client × IsOnTime service now)

-- a read that gave nothing is a Tick: where the count of these reads has changed, the latest Tick is of this moment
abbrev pub IdlesTick : {P T : Type 0} → (T → Counts) → ℕ → ServiceState P T → ServiceState P T → Type 0
IdlesTick counts now old new = ((counts new.transport).idles ≢ (counts old.transport).idles) → new.ticked ≡ now

-- no read gave nothing, and the latest Tick is as it was
abbrev pub KeepsIdles : {P T : Type 0} → (T → Counts) → ServiceState P T → ServiceState P T → Type 0
KeepsIdles counts old new = ((counts new.transport).idles ≡ (counts old.transport).idles) × (new.ticked ≡ old.ticked)

-- what a connection waits for, after a round at this moment
abbrev pub Describes : {P T : Type 0} → Round → ServiceState P T → ℕ → Type 0
Describes rounds.More service now = (service.ending ≡ None) × (service.outgoing ≡ []) × IsOnTime service now
Describes rounds.Reading service now =
    (service.ending ≡ None) × (service.outgoing ≡ []) × (service.drained ≡ true) × (IsRead service.client × IsOnTime service now)
Describes rounds.Writing service now = (service.ending ≡ None) × (service.outgoing ≢ [])
Describes rounds.Waiting service now =
    (service.ending ≡ None) × (service.outgoing ≡ []) × IsWaiting service.client.conn.phase × IsOnTime service now
Describes (rounds.Ended served) service now = (service.ending ≡ Some served) × (service.client.conn.phase ≡ Ended)
