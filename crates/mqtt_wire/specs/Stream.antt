-- A stream as packets, one after another, and then what is open or a fault (sections 2.1 and 4.13).
use Rattle.std.specs.Prelude.{◌≡◌, ℕ, ◌<◌, ◌≤◌, ◌⊎◌, nat_lt, if◌then◌else◌, List, [], ◌∷◌, ◌++◌, length, take, Option, Some, None, Result, Ok, Err}
use Rattle.std.specs.Io.KnownBytes.{Consumes, Keeps, IsAtEnd}
use Rattle.mqtt_fields.specs.declared.fault.StreamFault.{StreamFault}
use Rattle.mqtt_fields.specs.declared.fault.StreamFault.TheVariants.{Malformed, TooLarge}
use Rattle.mqtt_fields.specs.declared.fault.Fault.{Fault}
use Rattle.mqtt_fields.specs.declared.fault.Fault.TheVariants.{Stream, Memory}
use Rattle.mqtt_wire.specs.declared.fault.ReadFault.{ReadFault}
use Rattle.mqtt_wire.specs.declared.fault.ReadFault.TheVariants.{Refused, Device}
use Rattle.mqtt_packet.specs.declared.packet.Packet.{Packet}
use Rattle.mqtt_wire.specs.declared.kind.Kind.{Kind}
use Rattle.mqtt_fields.specs.Faults.{◌>>=◌}
use Rattle.mqtt_wire.specs.Kinds.{kind_at}
use Rattle.mqtt_fields.specs.Fields.{variable_at}
use Rattle.mqtt_wire.specs.Bodies.{body_at}
use Rattle.mqtt_wire.specs.Spelling.{Spells}

-- what a header says, and the bytes after it
pub record Header : Type 0 where
  pub kind : Kind
  pub remaining : ℕ
  pub rest : List ℕ

-- the longest Remaining Length that is read: with its header of four bytes the packet has 65,536 bytes (profile)
abbrev pub maximum_remaining_length : ℕ
maximum_remaining_length = 65532

-- the kind and the remaining length, where that is whole
abbrev pub header_from : Kind → Option (ℕ × List ℕ) → Result (Option Header) StreamFault
header_from kind None = Ok None
header_from kind (Some size) =
    if nat_lt maximum_remaining_length size.0 then Err TooLarge else Ok (Some (record { kind = kind; remaining = size.0; rest = size.1 }))

-- a kind that is none is malformed, as soon as its byte is there
abbrev pub header_of : Option Kind → List ℕ → Result (Option Header) StreamFault
header_of None bytes = Err Malformed
header_of (Some kind) bytes = variable_at 3 bytes >>= header_from kind

-- 2.1: the header in front: none where it is not whole yet; its first fault as soon as that shows
unfoldable pub header_at : List ℕ → Result (Option Header) StreamFault
header_at [] = Ok None
header_at (first ∷ bytes) = header_of (kind_at first) bytes

-- the header in front is this one, and its body is whole
pub record Frames (bytes : List ℕ) (header : Header) : Type 0 where
  pub found : header_at bytes ≡ Ok (Some header)
  pub whole : header.remaining ≤ length header.rest

-- a whole packet stands in front, lawful or not
abbrev pub HoldsPacket : List ℕ → Type 0
HoldsPacket bytes = (header : Header) × Frames bytes header

-- the bytes begin a packet, show no fault and are not a whole packet yet
abbrev pub IsOpen : List ℕ → Type 0
IsOpen bytes = (header_at bytes ≡ Ok None) ⊎ ((header : Header) × (header_at bytes ≡ Ok (Some header)) × (length header.rest < header.remaining))

-- a fault stands in front: in the header, or else in the body once that is whole
abbrev pub FaultAt : StreamFault → List ℕ → Type 0
FaultAt fault bytes = (header_at bytes ≡ Err fault) ⊎ ((header : Header) × Frames bytes header × (body_at header.kind (take header.remaining header.rest) ≡ Err fault))

-- how a stream ends
abbrev pub EndsAs : List ℕ → Option StreamFault → Type 0
EndsAs rest None = IsOpen rest
EndsAs rest (Some fault) = FaultAt fault rest

-- the stream is a spelling of each packet, one after another, and then the rest
abbrev pub Begins : List ℕ → List Packet → List ℕ → Type 0
Begins stream [] rest = stream ≡ rest
Begins stream (packet ∷ packets) rest = (front : List ℕ) × (after : List ℕ) × Spells packet front × (stream ≡ front ++ after) × Begins after packets rest

-- the packets of a stream, what is left behind them, and the fault in front of that, if there is one
abbrev pub Reads : List ℕ → List Packet → List ℕ → Option StreamFault → Type 0
Reads stream packets rest fault = Begins stream packets rest × EndsAs rest fault

-- what a splitter has not read yet, and the fault that it met
pub record Unread : Type 0 where
  pub bytes : List ℕ
  pub fault : Option StreamFault

-- a packet was taken from the front
pub record Takes (old : Unread) (packet : Packet) (new : Unread) : Type 0 where
  pub front : List ℕ
  pub spelled : Spells packet front
  pub parts : old.bytes ≡ front ++ new.bytes
  pub sound : old.fault ≡ None
  pub goes_on : new.fault ≡ None

-- a fault was met, now or before
abbrev pub Stops : Unread → StreamFault → Unread → Type 0
Stops old fault new = (new ≡ record old { fault = Some fault }) × ((old.fault ≡ Some fault) ⊎ ((old.fault ≡ None) × FaultAt fault old.bytes))

-- what `next` answers, and what is unread then
abbrev pub NextAnswers : Unread → Result (Option Packet) Fault → Unread → Type 0
NextAnswers old (Ok (Some packet)) new = Takes old packet new
NextAnswers old (Ok None) new = (old.fault ≡ None) × IsOpen old.bytes × (new ≡ old)
NextAnswers old (Err (Stream fault)) new = Stops old fault new
NextAnswers old (Err Memory) new = (old.fault ≡ None) × HoldsPacket old.bytes × (new ≡ old)

-- what `feed` answers, and what is unread then
abbrev pub FeedAnswers : Unread → List ℕ → Result (Unit {0}) Fault → Unread → Type 0
FeedAnswers old piece (Ok done) new = (old.fault ≡ None) × (new ≡ record old { bytes = old.bytes ++ piece })
FeedAnswers old piece (Err (Stream fault)) new = (old.fault ≡ Some fault) × (new ≡ old)
FeedAnswers old piece (Err Memory) new = (old.fault ≡ None) × (new ≡ old)

-- what `read_from` answers, what is unread then, and what the reader will give before and after, where that is known
abbrev pub ReadAnswers : Unread → Option (List ℕ) → Result ℕ ReadFault → Unread → Option (List ℕ) → Type 0
ReadAnswers old ahead (Ok count) new left = (piece : List ℕ) × (length piece ≡ count) × FeedAnswers old piece (Ok tt) new × Consumes ahead left piece × (count ≡ 0 → IsAtEnd left)
ReadAnswers old ahead (Err (Refused fault)) new left = FeedAnswers old [] (Err fault) new × (left ≡ ahead)
ReadAnswers old ahead (Err (Device error)) new left = (old.fault ≡ None) × (new ≡ old) × Keeps ahead left

-- a reading of a stream: its packets, its rest, its fault
abbrev pub Reading : List ℕ → Type 0
Reading stream = (packets : List Packet) × (rest : List ℕ) × (fault : Option StreamFault) × Reads stream packets rest fault
