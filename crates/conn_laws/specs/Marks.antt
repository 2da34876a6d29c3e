-- The marks of a transcript: which packets they stand for, and what they send and acknowledge (sections 3.3, 3.4 and 4.4).
use Rattle.std.specs.Prelude.{◌≡◌, ℕ, Bool, true, false, List, filter_map, Option, Some, None, ⊤}
use Rattle.mqtt_packet.specs.declared.packet.Packet.{Packet}
use Rattle.mqtt_packet.specs.declared.packet.Packet.TheVariants as packets
use Rattle.group_jobs.specs.Stamps.{Held}
use Rattle.member_window.specs.Marks.{Mark, Up, Sent, Acked, Down}
use Rattle.conn_rules.specs.Packets.{job}
use Rattle.conn_engine.specs.declared.input.Input.{Input}
use Rattle.conn_engine.specs.declared.input.Input.TheVariants as inputs

-- the PUBLISH packets among these
abbrev pub as_publish : Packet → Option Packet
as_publish (packets.Publish publish) = Some (packets.Publish publish)
as_publish other = None

abbrev pub publishes_in : List Packet → List Packet
publishes_in sent = filter_map as_publish sent

-- the PUBLISH packet that a mark stands for that was made at this moment
abbrev pub publish_of : ℕ → Mark Held → Option Packet
publish_of now (Up receive_maximum) = None
publish_of now (Sent identifier dup envelope) = Some (job now dup envelope.message envelope.subscription identifier)
publish_of now (Acked identifier code) = None
publish_of now Down = None

abbrev pub publishes_of : ℕ → List (Mark Held) → List Packet
publishes_of now marks = filter_map (publish_of now) marks

-- what is sent for the first time, with DUP 0
abbrev pub fresh_if : Bool → Held → Option Held
fresh_if true envelope = None
fresh_if false envelope = Some envelope

abbrev pub fresh_in : Mark Held → Option Held
fresh_in (Up receive_maximum) = None
fresh_in (Sent identifier dup envelope) = fresh_if dup envelope
fresh_in (Acked identifier code) = None
fresh_in Down = None

abbrev pub fresh_of : List (Mark Held) → List Held
fresh_of marks = filter_map fresh_in marks

-- which identifier is acknowledged, and with which Reason Code
abbrev pub acknowledged_in : Mark Held → Option (ℕ × ℕ)
acknowledged_in (Up receive_maximum) = None
acknowledged_in (Sent identifier dup envelope) = None
acknowledged_in (Acked identifier code) = Some (identifier, code)
acknowledged_in Down = None

abbrev pub acknowledged_of : List (Mark Held) → List (ℕ × ℕ)
acknowledged_of marks = filter_map acknowledged_in marks

-- a mark between the beginning and the end of a connection
abbrev pub IsWithin : Mark Held → Type 0
IsWithin (Up receive_maximum) = ⊥
IsWithin (Sent identifier dup envelope) = ⊤
IsWithin (Acked identifier code) = ⊤
IsWithin Down = ⊥

-- this PUBACK came
abbrev pub IsAckedBy : Input → ℕ × ℕ → Type 0
IsAckedBy (inputs.Packet (packets.Puback puback)) acked = acked ≡ (puback.packet_identifier, puback.reason_code)
IsAckedBy input acked = ⊥
