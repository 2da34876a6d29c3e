-- What a read, a write and a step change beside what they move: moments, and how a connection has ended.
use Rattle.std.specs.Prelude.{ℕ, ◌+◌, ◌<◌, min, nat_lt, Bool, true, false, List, [], ◌∷◌, Option, Some, None}
use Rattle.transport.specs.declared.answers.Got.{Got}
use Rattle.transport.specs.declared.answers.Got.TheVariants as got
use Rattle.transport.specs.declared.answers.Put.{Put}
use Rattle.transport.specs.declared.answers.Put.TheVariants as put
use Rattle.conn_engine.specs.declared.input.Input.{Input}
use Rattle.conn_engine.specs.declared.input.Input.TheVariants as inputs
use Rattle.conn_engine.specs.declared.phase.ConnPhase.{ConnPhase}
use Rattle.conn_engine.specs.declared.phase.ConnPhase.TheVariants.{Unconnected, Waiting, Connected, Ended}
use Rattle.client_table.specs.Clients.{ClientState}
use Rattle.client_table.specs.Streams.{fed}
use Rattle.conn_service.specs.declared.served.Served.{Served}
use Rattle.conn_service.specs.declared.served.Served.TheVariants as served

-- the moment of the latest Tick, after this input
abbrev pub ticked_by : Input → ℕ → ℕ → ℕ
ticked_by (inputs.Packet packet) now ticked = ticked
ticked_by (inputs.Fault fault) now ticked = ticked
ticked_by inputs.Tick now ticked = now
ticked_by inputs.EndOfInput now ticked = ticked
ticked_by inputs.Closing now ticked = ticked

-- how it has ended, after a read and after a write
abbrev pub ending_read : Got → Option Served
ending_read (got.Bytes count) = None
ending_read got.Idle = None
ending_read got.End = None
ending_read got.Failed = Some served.Read

abbrev pub ending_write : Put → Option Served
ending_write (put.Wrote count) = None
ending_write put.Idle = None
ending_write put.Failed = Some served.Write

-- the transport has ended
abbrev pub ends_by : Got → Bool
ends_by (got.Bytes count) = false
ends_by got.Idle = false
ends_by got.End = true
ends_by got.Failed = false

-- since when nothing was taken, after a write
abbrev pub since_write : Put → ℕ → ℕ → ℕ
since_write (put.Wrote count) now since = now
since_write put.Idle now since = since
since_write put.Failed now since = since

-- and after a step: where nothing waited before it, since then
abbrev pub since_step : List ℕ → ℕ → ℕ → ℕ
since_step [] now since = now
since_step (byte ∷ bytes) now since = since

-- how many writes in a row gave nothing, after a write
abbrev pub refused_write : Put → ℕ → ℕ
refused_write (put.Wrote count) refused = 0
refused_write put.Idle refused = min (refused + 1) 600
refused_write put.Failed refused = refused

-- the client, after a read that gave these bytes
abbrev pub fed_by : {P : Type 0} → Got → ClientState P → List ℕ → ClientState P
fed_by (got.Bytes count) client bytes = fed client bytes
fed_by got.Idle client bytes = client
fed_by got.End client bytes = client
fed_by got.Failed client bytes = client

-- how much of a stream is kept while the connection waits for its session, after so many bytes more, counted up to 65,536; none where it does not wait
abbrev pub kept_since : {P : Type 0} → ConnPhase P → ℕ → ℕ → ℕ
kept_since (Unconnected opened) kept count = 0
kept_since (Waiting request ticks) kept count = min (kept + count) 65536
kept_since (Connected connected) kept count = 0
kept_since Ended kept count = 0

abbrev pub kept_by : {P : Type 0} → Got → ConnPhase P → ℕ → ℕ
kept_by (got.Bytes count) phase kept = kept_since phase kept count
kept_by got.Idle phase kept = kept
kept_by got.End phase kept = kept
kept_by got.Failed phase kept = kept

-- a read gave less than there was room for
abbrev pub drained_by : Got → ℕ → Bool
drained_by (got.Bytes count) size = nat_lt count size
drained_by got.Idle size = true
drained_by got.End size = true
drained_by got.Failed size = true

-- and after the beginning of a visit: a round that reads forgets it
abbrev pub still_drained : Bool → Bool → Bool
still_drained true drained = false
still_drained false drained = drained

-- a write that takes something takes a byte at least
abbrev pub TakesSome : Put → Type 0
TakesSome (put.Wrote count) = 0 < count
TakesSome put.Idle = Unit {0}
TakesSome put.Failed = Unit {0}

-- what a read gave is a Tick: nothing, and anything while the connection waits for its session
abbrev pub is_tick_for : Got → Bool → Bool
is_tick_for (got.Bytes count) waits = waits
is_tick_for got.Idle waits = true
is_tick_for got.End waits = false
is_tick_for got.Failed waits = false
