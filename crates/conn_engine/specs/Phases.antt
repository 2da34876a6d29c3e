-- How far a connection has come.
use Rattle.std.specs.Prelude.{ℕ, ◌≤◌, ◌<◌, ⊤, List, length}
use Rattle.group_jobs.specs.Stamps.{Held}
use Rattle.conn_supply.specs.Ready.{IsSoundSession}
use Rattle.conn_engine.specs.declared.phase.ConnPhase.{ConnPhase}
use Rattle.conn_engine.specs.declared.phase.ConnPhase.TheVariants.{Unconnected, Waiting, Connected, Ended}

-- what holds of every connection: the identifier of a client that waits is one that a session may be asked for with, and the session of a
-- client that is connected is not ending, and has out at its place what it holds
abbrev pub IsSoundPhase : {P : Type 0} → (P → List Held → Type 0) → ConnPhase P → Type 0
IsSoundPhase HasOut (Unconnected opened) = ⊤
IsSoundPhase HasOut (Waiting request ticks) = (length request.client ≤ 128) × (ticks < 100)
IsSoundPhase HasOut (Connected connected) = IsSoundSession HasOut connected.session
IsSoundPhase HasOut Ended = ⊤

-- a connection waits for a session
abbrev pub IsWaiting : {P : Type 0} → ConnPhase P → Type 0
IsWaiting (Unconnected opened) = ⊥
IsWaiting (Waiting request ticks) = ⊤
IsWaiting (Connected connected) = ⊥
IsWaiting Ended = ⊥

-- its client has its session
abbrev pub IsConnected : {P : Type 0} → ConnPhase P → Type 0
IsConnected (Unconnected opened) = ⊥
IsConnected (Waiting request ticks) = ⊥
IsConnected (Connected connected) = ⊤
IsConnected Ended = ⊥

-- a connection: its number, the latest moment at which something came to it, and how far it has come
pub record ConnState (P : Type 0) : Type 0 where
  pub number : ℕ
  pub latest : ℕ
  pub phase : ConnPhase P
