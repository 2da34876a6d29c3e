-- Packets that are taken off a stream: first the header, then the body (section 2.1).
use Rattle.std.specs.Prelude.{◌≡◌, ℕ, ◌<◌, ◌≤◌, List, [], ◌∷◌, ◌++◌, length, take, drop, Option, Some, None, Result, Ok, Err}
use Rattle.std.specs.Borrow.{Bor}
use Rattle.mqtt_fields.specs.declared.fault.StreamFault.{StreamFault}
use Rattle.mqtt_fields.specs.declared.fault.Fault.{Fault}
use Rattle.mqtt_fields.specs.declared.fault.Fault.TheVariants.{Stream, Memory}
use Rattle.mqtt_wire.specs.declared.header.FixedHeader.{FixedHeader}
use Rattle.mqtt_wire.specs.declared.frame.Frame.{Frame}
use Rattle.mqtt_wire.specs.declared.splitter.InHand.{InHand}
use Rattle.mqtt_wire.specs.declared.splitter.InHand.TheVariants.{Nothing, Headed, Whole}
use Rattle.mqtt_packet.specs.declared.packet.Packet.{Packet}
use Rattle.mqtt_fields.specs.Forms.{variable_byte_integer, AreBytes}
use Rattle.mqtt_wire.specs.Kinds.{first_byte}
use Rattle.mqtt_wire.specs.Writing.{framed}
use Rattle.mqtt_wire.specs.Spelling.{Spells}
use Rattle.mqtt_wire.specs.Stream.{Header, HoldsPacket, IsOpen, FaultAt, Unread, NextAnswers, header_at, maximum_remaining_length}

-- a header that was read, with the bytes after it
abbrev pub header_with : FixedHeader → List ℕ → Header
header_with header rest = record { kind = header.kind; remaining = header.remaining; rest = rest }

-- what reading a header gives
abbrev pub GivesHeader : Result (Option (FixedHeader × Bor (List ℕ))) StreamFault → Result (Option Header) StreamFault → Type 0
GivesHeader (Ok None) read = read ≡ Ok None
GivesHeader (Ok (Some found)) read = read ≡ Ok (Some (header_with found.0 found.1.now))
GivesHeader (Err fault) read = read ≡ Err fault

-- what taking a header answers, and the stream then
abbrev pub TakesHeader : List ℕ → Result (Option FixedHeader) StreamFault → List ℕ → Type 0
TakesHeader old (Ok (Some header)) new = header_at old ≡ Ok (Some (header_with header new))
TakesHeader old (Ok None) new = (header_at old ≡ Ok None) × (new ≡ old)
TakesHeader old (Err fault) new = (header_at old ≡ Err fault) × (new ≡ old)

-- the body after a header was taken, and it is whole
pub record TakesFrame (header : FixedHeader) (old : List ℕ) (frame : Frame) (new : List ℕ) : Type 0 where
  pub whole : header.remaining ≤ length old
  pub kind : frame.kind ≡ header.kind
  pub body : frame.body ≡ take header.remaining old
  pub rest : new ≡ drop header.remaining old

-- what taking a body answers, and the stream then
abbrev pub TakesBody : {E : Type 0} → FixedHeader → List ℕ → Result (Option Frame) E → List ℕ → Type 0
TakesBody header old (Ok (Some frame)) new = TakesFrame header old frame new
TakesBody header old (Ok None) new = (length old < header.remaining) × (new ≡ old)
TakesBody header old (Err e) new = (header.remaining ≤ length old) × (new ≡ old)

-- the bytes of a header, and those of a frame, as they stood on the stream
abbrev pub header_bytes : FixedHeader → List ℕ
header_bytes header = first_byte header.kind ∷ variable_byte_integer header.remaining

abbrev pub frame_bytes : Frame → List ℕ
frame_bytes frame = framed (first_byte frame.kind) frame.body

-- the bytes that were taken of the packet in front
abbrev pub bytes_in_hand : InHand → List ℕ
bytes_in_hand Nothing = []
bytes_in_hand (Headed header) = header_bytes header
bytes_in_hand (Whole frame) = frame_bytes frame

-- the body of a packet in hand is no longer than the longest that is read
abbrev pub IsInHand : InHand → Type 0
IsInHand Nothing = Unit {0}
IsInHand (Headed header) = header.remaining ≤ maximum_remaining_length
IsInHand (Whole frame) = length frame.body ≤ maximum_remaining_length

-- what is in hand and the stream after it, as the splitter holds them
abbrev pub IsHeld : InHand → List ℕ → Type 0
IsHeld hand stream = IsInHand hand × AreBytes (bytes_in_hand hand ++ stream)

-- some of the stream is in hand now, and none of it is lost
pub record Keeps (hand : InHand) (old : List ℕ) (left : InHand) (new : List ℕ) : Type 0 where
  pub same : bytes_in_hand left ++ new ≡ bytes_in_hand hand ++ old
  pub small : IsInHand left

-- nothing is in hand only where no header is whole
abbrev pub WantsHeader : InHand → List ℕ → Type 0
WantsHeader Nothing stream = header_at stream ≡ Ok None
WantsHeader (Headed header) stream = Unit {0}
WantsHeader (Whole frame) stream = Unit {0}

-- what reaching for a header answers: what is in hand then, and the stream
abbrev pub ReachesHeader : InHand → List ℕ → Result (Unit {0}) StreamFault → InHand → List ℕ → Type 0
ReachesHeader hand old (Ok done) left new = Keeps hand old left new × WantsHeader left new
ReachesHeader hand old (Err fault) left new = Keeps hand old left new × FaultAt fault (bytes_in_hand left ++ new)

-- where the packet is not whole, the stream is open
abbrev pub WantsMore : InHand → List ℕ → Type 0
WantsMore Nothing stream = IsOpen stream
WantsMore (Headed header) stream = IsOpen (header_bytes header ++ stream)
WantsMore (Whole frame) stream = Unit {0}

-- what reaching for the whole packet answers: what is in hand then, and the stream
abbrev pub ReachesPacket : InHand → List ℕ → Result (Unit {0}) Fault → InHand → List ℕ → Type 0
ReachesPacket hand old (Ok done) left new = Keeps hand old left new × WantsMore left new
ReachesPacket hand old (Err (Stream fault)) left new = Keeps hand old left new × FaultAt fault (bytes_in_hand left ++ new)
ReachesPacket hand old (Err Memory) left new = Keeps hand old left new × HoldsPacket (bytes_in_hand left ++ new)

-- the fault of the stream that an answer tells
abbrev pub fault_in : Result (Option Packet) Fault → Option StreamFault
fault_in (Ok found) = None
fault_in (Err (Stream fault)) = Some fault
fault_in (Err Memory) = None

-- a short packet was taken from the front, where it stood; else nothing has changed
abbrev pub TakesShort : List ℕ → Option Packet → List ℕ → Type 0
TakesShort old (Some packet) new = (front : List ℕ) × Spells packet front × (old ≡ front ++ new)
TakesShort old None new = new ≡ old

-- what is unread: the bytes in hand and those after them
abbrev pub unread : InHand → List ℕ → Option StreamFault → Unread
unread hand stream fault = record { bytes = bytes_in_hand hand ++ stream; fault = fault }

-- what taking a packet answers, and what is in hand and on the stream then
abbrev pub TakesPacket : InHand → List ℕ → Result (Option Packet) Fault → InHand → List ℕ → Type 0
TakesPacket hand old answer left new = IsHeld left new × NextAnswers (unread hand old None) answer (unread left new (fault_in answer))
