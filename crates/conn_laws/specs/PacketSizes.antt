-- Which packets a client takes, by the Maximum Packet Size that it has named (section 3.1.2.11.4), and which messages are held for it.
use Rattle.std.specs.Prelude.{◌≡◌, ◌⊎◌, ℕ, ◌≤◌, false, true, [], Option, Some, None, Ok, ⊤}
use Rattle.std.specs.List.{AllByRecursion}
use Rattle.mqtt_packet.specs.declared.packet.Packet.{Packet}
use Rattle.mqtt_packet.specs.declared.packet.Packet.TheVariants as packets
use Rattle.group_jobs.specs.Stamps.{Held}
use Rattle.member_window.specs.Contents.{held_of}
use Rattle.session_desk.specs.Attaching.{Request}
use Rattle.session_desk.specs.Names.{assigned_name}
use Rattle.session_desk.specs.declared.attached.Attached.{Attached}
use Rattle.session_desk.specs.declared.attached.Attached.TheVariants.{New, Resumed, Replace, Busy}
use Rattle.session_desk.specs.declared.session.Session.{Session}
use Rattle.conn_rules.specs.HandOuts.{is_too_long}
use Rattle.conn_rules.specs.Packets.{job}
use Rattle.conn_supply.specs.SupplyCalls.{SupplyCall}
use Rattle.conn_supply.specs.SupplyCalls.SupplyCall.{Attach}
use Rattle.conn_engine.specs.declared.input.Input.{Input}
use Rattle.conn_engine.specs.declared.input.Input.TheVariants as inputs
use Rattle.conn_engine.specs.declared.phase.ConnPhase.{ConnPhase}
use Rattle.conn_engine.specs.declared.phase.ConnPhase.TheVariants.{Unconnected, Waiting, Connected, Ended}
use Rattle.conn_laws.specs.Sizes.{bytes_for_all, Assigns}

-- the Maximum Packet Size that the client of a connection has named, where it has: in the CONNECT that comes, or in the one that came
abbrev pub maximum_named : {P : Type 0} → ConnPhase P → Input → Option ℕ
maximum_named (Unconnected opened) (inputs.Packet (packets.Connect connect)) = connect.properties.maximum_packet_size
maximum_named (Unconnected opened) input = None
maximum_named (Waiting request ticks) input = request.terms.maximum_packet_size
maximum_named (Connected connected) input = connected.terms.maximum_packet_size
maximum_named Ended input = None

-- a connection has this one in the terms that it has, or waits with
abbrev pub HasMaximum : {P : Type 0} → Option ℕ → ConnPhase P → Type 0
HasMaximum maximum (Unconnected opened) = ⊤
HasMaximum maximum (Waiting request ticks) = request.terms.maximum_packet_size ≡ maximum
HasMaximum maximum (Connected connected) = connected.terms.maximum_packet_size ≡ maximum
HasMaximum maximum Ended = ⊤

-- a client of this Maximum Packet Size takes a packet: it is not longer
abbrev pub Takes : Option ℕ → Packet → Type 0
Takes maximum packet = is_too_long maximum packet ≡ false

-- it takes a message that its session holds, in each PUBLISH in which that is sent again: under its own identifiers, with DUP 1, at whatever moment (4.4)
abbrev pub TakesAgain : Option ℕ → ℕ × Held → Type 0
TakesAgain maximum entry = (now : ℕ) → Takes maximum (job now true entry.1.message entry.1.subscription entry.0)

-- it takes each packet of at most 64 bytes
abbrev pub TakesSmall : Option ℕ → Type 0
TakesSmall None = ⊤
TakesSmall (Some maximum) = bytes_for_all ≤ maximum

-- the client of a connection takes each packet of at most 64 bytes, and all that its session holds
abbrev pub HoldsWhatFits : {P : Type 0} → ConnPhase P → Type 0
HoldsWhatFits (Unconnected opened) = ⊤
HoldsWhatFits (Waiting request ticks) = TakesSmall request.terms.maximum_packet_size
HoldsWhatFits (Connected connected) =
    TakesSmall connected.terms.maximum_packet_size × AllByRecursion (TakesAgain connected.terms.maximum_packet_size) (held_of connected.session.window)
HoldsWhatFits Ended = ⊤

-- it takes a packet, unless that is a CONNACK that assigns an identifier
abbrev pub TakesUnlessAssigns : Option ℕ → Packet → Type 0
TakesUnlessAssigns maximum packet = Takes maximum packet ⊎ Assigns packet

-- a session under an identifier that a desk assigns (3.1.3.1, profile)
abbrev pub HasAssignedName : {P : Type 0} → Session Held P → Type 0
HasAssignedName session = (number : ℕ) × (session.identity.client ≡ assigned_name number)

-- so is the session of this answer, where it brings one
abbrev pub BringsAssignedName : {P : Type 0} → Attached Held P → Type 0
BringsAssignedName (New session ended) = HasAssignedName session
BringsAssignedName (Resumed session) = HasAssignedName session
BringsAssignedName (Replace holder) = ⊤
BringsAssignedName Busy = ⊤

module _ {S P : Type 0} (call : S → SupplyCall P → S → Type 0) where
  -- each new session that a supply lends holds nothing (3.1.2.4)
  abbrev pub AreNewEmpty : Type 0
  AreNewEmpty = (old new : S) (request : Request) (session : Session Held P) (ended : Option (Session Held P)) →
      call old (Attach request (Ok (New session ended))) new → held_of session.window ≡ []

  -- each session that it lends to a client without an identifier is under one that a desk assigns
  abbrev pub AreNamesAssigned : Type 0
  AreNamesAssigned = (old new : S) (request : Request) (answer : Attached Held P) →
      request.client ≡ [] → call old (Attach request (Ok answer)) new → BringsAssignedName answer
