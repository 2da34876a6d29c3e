-- What can be told of a connection without a step: when silence ends it, how many messages its client has, and whose it would take.
use Rattle.std.specs.Prelude.{◌≡◌, ℕ, ◌-◌, true, length}
use Rattle.session_desk.specs.declared.session.Membership.TheVariants.{Member}
use Rattle.member_window.specs.Contents.{HasRoom, held_of}
use Rattle.conn_rules.specs.KeepAlive.{is_overdue, is_late}
use Rattle.conn_engine.specs.declared.phase.ConnPhase.{ConnPhase}
use Rattle.conn_engine.specs.declared.phase.ConnPhase.TheVariants.{Unconnected, Waiting, Connected, Ended}

-- a Tick at this moment ends the connection: no CONNECT came in time (3.1.4), or no packet for one and a half times the keep alive (3.1.2.10)
abbrev pub IsSilentTooLong : {P : Type 0} → ConnPhase P → ℕ → Type 0
IsSilentTooLong (Unconnected opened) now = is_late (now - opened.at) ≡ true
IsSilentTooLong (Waiting request ticks) now = ⊥
IsSilentTooLong (Connected connected) now = is_overdue connected.terms.keep_alive (now - connected.heard) ≡ true
IsSilentTooLong Ended now = ⊥

-- its client is a member with this place, and there is room for a message
abbrev pub TakesAt : {P : Type 0} → ConnPhase P → P → Type 0
TakesAt (Unconnected opened) place = ⊥
TakesAt (Waiting request ticks) place = ⊥
TakesAt (Connected connected) place = (connected.session.membership ≡ Member place) × HasRoom connected.session.window
TakesAt Ended place = ⊥

-- how many messages its client has not acknowledged
abbrev pub held_by : {P : Type 0} → ConnPhase P → ℕ
held_by (Unconnected opened) = 0
held_by (Waiting request ticks) = 0
held_by (Connected connected) = length (held_of connected.session.window)
held_by Ended = 0
