-- What `next` answers: packets that are spelled so, an open rest, or the fault in front.
use Rattle.std.proofs.Common.{◌≡◌, ℕ, ◌<◌, ◌≤◌, List, ◌∷◌, ◌++◌, length, take, drop, Option, Some, None, Ok, Err, refl, sym, ap, subst, ◌∙◌, append_assoc, arith, inl, inr, length-append}
use Rattle.std.proofs.lemmas.Bool.{cases_lt}
use Rattle.std.proofs.lemmas.List.{length-take-le, take-append-drop, take_at, drop_at}
use Rattle.mqtt_fields.specs.declared.fault.StreamFault.{StreamFault}
use Rattle.mqtt_fields.specs.declared.fault.Fault.{Fault}
use Rattle.mqtt_fields.specs.declared.fault.Fault.TheVariants.{Stream, Memory}
use Rattle.mqtt_packet.specs.declared.packet.Packet.{Packet}
use Rattle.mqtt_wire.specs.declared.header.FixedHeader.{FixedHeader}
use Rattle.mqtt_wire.specs.declared.frame.Frame.{Frame}
use Rattle.mqtt_wire.specs.declared.splitter.InHand.{InHand}
use Rattle.mqtt_wire.specs.declared.splitter.InHand.TheVariants.{Nothing, Headed, Whole}
use Rattle.mqtt_wire.specs.declared.kind.Kind.{Kind}
use Rattle.mqtt_fields.specs.Faults.{Fails}
use Rattle.mqtt_fields.specs.Forms.{variable_byte_integer, AreBytes}
use Rattle.mqtt_wire.specs.Kinds.{first_byte}
use Rattle.mqtt_wire.specs.Bodies.{body_at}
use Rattle.mqtt_wire.specs.Writing.{framed}
use Rattle.mqtt_wire.specs.Spelling.{Spells}
use Rattle.mqtt_wire.specs.Stream.{Header, header_at, Frames, HoldsPacket, IsOpen, FaultAt, Unread}
use Rattle.mqtt_wire.specs.Frame.{header_with, header_bytes, frame_bytes, bytes_in_hand, IsInHand, IsHeld, Keeps, TakesFrame, TakesPacket, unread}
use Rattle.mqtt_fields.proofs.Steps.{drop_bytes, take_bytes}
use Rattle.mqtt_fields.proofs.Variable.{at_most_three, at_least_three}
use Rattle.mqtt_wire.proofs.HeaderLaws.{header_takes, header_again}
use Rattle.mqtt_wire.proofs.FitLaws.{spelled_fits}
use Rattle.mqtt_wire.proofs.BodyLaws.{body_takes}

-- ---- sizes

pub frame_size : (first : ℕ) (body : List ℕ) → length body ≤ 65532 → length (framed first body) ≤ 65536
frame_size first body h =
    omega (arith, length-append (first ∷ variable_byte_integer (length body)) body, at_most_three (length body) (omega arith))

pub body_size : (first : ℕ) (body : List ℕ) → length (framed first body) ≤ 65536 → length body ≤ 65532
body_size first body h =
    elim (cases_lt 65532 (length body)) [
      | inl large ↦ absurd (omega (arith, length-append (first ∷ variable_byte_integer (length body)) body, at_least_three (length body) (omega arith)))
      | inr small ↦ small
    ]

-- ---- parts of a list of bytes

pub front_bytes : (a b : List ℕ) → AreBytes (a ++ b) → AreBytes a
front_bytes a b h i = subst AreBytes (take_at a b (length a) refl) (take_bytes (length a) (a ++ b) h) i

pub back_bytes : (a b : List ℕ) → AreBytes (a ++ b) → AreBytes b
back_bytes a b h i = subst AreBytes (drop_at a b (length a) refl) (drop_bytes (length a) (a ++ b) h) i

-- ---- a frame

-- the bytes of a frame and what is after them are the header and what was after that
pub frame_same : (kind : Kind) (remaining : ℕ) (rest : List ℕ) → remaining ≤ length rest → framed (first_byte kind) (take remaining rest) ++ drop remaining rest ≡ (first_byte kind ∷ variable_byte_integer remaining) ++ rest
frame_same kind remaining rest whole =
    let body : List ℕ = take remaining rest in
    let head : List ℕ = first_byte kind ∷ variable_byte_integer remaining in
    ap (λ (n : ℕ). first_byte kind ∷ variable_byte_integer n ++ body ++ drop remaining rest) (length-take-le remaining rest whole)
    ∙ append_assoc head body (drop remaining rest)
    ∙ ap (λ (t : List ℕ). head ++ t) (take-append-drop remaining rest)

-- a whole packet in front of a stream, as its frame and what is after it
pub record Framed (stream : List ℕ) (header : Header) : Type 0 where
  pub same : framed (first_byte header.kind) (take header.remaining header.rest) ++ drop header.remaining header.rest ≡ stream
  pub small : length (take header.remaining header.rest) ≤ 65532

pub frames_whole : (stream : List ℕ) (header : Header) → AreBytes stream → Frames stream header → Framed stream header
frames_whole stream header fits frames =
    let t = header_takes stream header fits frames.found in
    record {
      same = frame_same header.kind header.remaining header.rest frames.whole ∙ sym t.parts;
      small = omega (arith, length-take-le header.remaining header.rest frames.whole, t.small);
    }

pub frame_header : (frame : Frame) (rest : List ℕ) → length frame.body ≤ 65532 → header_at (frame_bytes frame ++ rest) ≡ Ok (Some (record { kind = frame.kind; remaining = length frame.body; rest = frame.body ++ rest }))
frame_header frame rest small =
    ap header_at (append_assoc (first_byte frame.kind ∷ variable_byte_integer (length frame.body)) frame.body rest)
    ∙ header_again frame.kind (length frame.body) (frame.body ++ rest) small

-- a frame is a whole packet in front of the bytes
pub frame_holds : (frame : Frame) (rest : List ℕ) → length frame.body ≤ 65532 → HoldsPacket (frame_bytes frame ++ rest)
frame_holds frame rest small = (
  record { kind = frame.kind; remaining = length frame.body; rest = frame.body ++ rest },
  record { found = frame_header frame rest small; whole = omega (arith, length-append frame.body rest) },
)

-- a header with a whole body after it is one too
pub headed_holds : (header : FixedHeader) (rest : List ℕ) → header.remaining ≤ 65532 → header.remaining ≤ length rest → HoldsPacket (header_bytes header ++ rest)
headed_holds header rest small whole =
    (header_with header rest, record { found = header_again header.kind header.remaining rest small; whole = whole })

-- a fault in the body of a frame stands in front of the bytes
pub frame_fault : (frame : Frame) (rest : List ℕ) (fault : StreamFault) → length frame.body ≤ 65532 → body_at frame.kind frame.body ≡ Err fault → FaultAt fault (frame_bytes frame ++ rest)
frame_fault frame rest fault small e =
    let header : Header = record { kind = frame.kind; remaining = length frame.body; rest = frame.body ++ rest } in
    let frames : Frames (frame_bytes frame ++ rest) header = record { found = frame_header frame rest small; whole = omega (arith, length-append frame.body rest) } in
    inr (header, frames, ap (body_at frame.kind) (take_at frame.body rest (length frame.body) refl) ∙ e)

-- a body that is read spells its packet, with the header in front
pub frame_spells : (frame : Frame) (packet : Packet) → length frame.body ≤ 65532 → AreBytes frame.body → body_at frame.kind frame.body ≡ Ok packet → Spells packet (frame_bytes frame)
frame_spells frame packet small fits e =
    let b = body_takes frame.kind frame.body packet fits e in
    record {
      client = b.client;
      fits = spelled_fits packet frame.body b.client b.spelled;
      body = frame.body;
      spelled = b.spelled;
      parts = ap (λ (first : ℕ). framed first frame.body) (sym b.byte);
      size = frame_size (first_byte frame.kind) frame.body small;
    }

pub frame_body_bytes : (frame : Frame) (rest : List ℕ) → AreBytes (frame_bytes frame ++ rest) → AreBytes frame.body
frame_body_bytes frame rest fits =
    back_bytes (first_byte frame.kind ∷ variable_byte_integer (length frame.body)) frame.body (front_bytes (frame_bytes frame) rest fits)

-- ---- what is in hand

-- nothing was taken
pub keeps_all : (hand : InHand) (old new : List ℕ) → IsInHand hand → new ≡ old → Keeps hand old hand new
keeps_all hand old new small same = record { same = ap (λ (s : List ℕ). bytes_in_hand hand ++ s) same; small = small }

-- a header was taken
pub keeps_header : (old : List ℕ) (header : FixedHeader) (new : List ℕ) → AreBytes old → header_at old ≡ Ok (Some (header_with header new)) → Keeps Nothing old (Headed header) new
keeps_header old header new fits e =
    let t = header_takes old (header_with header new) fits e in
    record { same = sym t.parts; small = t.small }

-- a body was taken
pub keeps_body : (header : FixedHeader) (old : List ℕ) (frame : Frame) (new : List ℕ) → header.remaining ≤ 65532 → TakesFrame header old frame new → Keeps (Headed header) old (Whole frame) new
keeps_body header old frame new small taken = record {
  same =
      ap (λ (k : Kind). framed (first_byte k) frame.body ++ new) taken.kind
      ∙ ap (λ (b : List ℕ). framed (first_byte header.kind) b ++ new) taken.body
      ∙ ap (λ (r : List ℕ). framed (first_byte header.kind) (take header.remaining old) ++ r) taken.rest
      ∙ frame_same header.kind header.remaining old taken.whole;
  small = omega (arith, ap length taken.body, length-take-le header.remaining old taken.whole);
}

-- one after the other
pub keeps_on : (a : InHand) (s : List ℕ) (b : InHand) (t : List ℕ) (c : InHand) (u : List ℕ) → Keeps a s b t → Keeps b t c u → Keeps a s c u
keeps_on a s b t c u p q = record { same = q.same ∙ p.same; small = q.small }

-- what is kept is still bytes
pub still_held : (hand : InHand) (old : List ℕ) (left : InHand) (new : List ℕ) → IsHeld hand old → Keeps hand old left new → IsHeld left new
still_held hand old left new held keeps = (keeps.small, subst AreBytes (sym keeps.same) held.1)

-- a header is open as long as its body is not whole
pub headed_open : (header : FixedHeader) (rest : List ℕ) → header.remaining ≤ 65532 → length rest < header.remaining → IsOpen (header_bytes header ++ rest)
headed_open header rest small short = inr (header_with header rest, header_again header.kind header.remaining rest small, short)

-- ---- what `next` owes

abbrev unread_with : Option StreamFault → List ℕ → Unread
unread_with fault bytes = record { bytes = bytes; fault = fault }

pub same_unread : (hand : InHand) (old : List ℕ) (left : InHand) (new : List ℕ) (fault : Option StreamFault) → Keeps hand old left new → unread left new fault ≡ unread hand old fault
same_unread hand old left new fault keeps = ap (unread_with fault) keeps.same

-- a packet was read of what is in hand
pub takes_frame : (hand : InHand) (old : List ℕ) (frame : Frame) (new : List ℕ) (packet : Packet) → IsHeld hand old → Keeps hand old (Whole frame) new → body_at frame.kind frame.body ≡ Ok packet → TakesPacket hand old (Ok (Some packet)) Nothing new
takes_frame hand old frame new packet held keeps e =
    let left = still_held hand old (Whole frame) new held keeps in (
      (tt, back_bytes (frame_bytes frame) new left.1),
      record {
        front = frame_bytes frame;
        spelled = frame_spells frame packet keeps.small (frame_body_bytes frame new left.1) e;
        parts = sym keeps.same;
        sound = refl;
        goes_on = refl;
      },
    )

-- what is in hand could not be read
pub frame_fails : (hand : InHand) (old : List ℕ) (frame : Frame) (new : List ℕ) (fault : Fault) → IsHeld hand old → Keeps hand old (Whole frame) new → Fails fault (body_at frame.kind frame.body) → TakesPacket hand old (Err fault) (Whole frame) new
frame_fails hand old frame new Memory held keeps e =
    (still_held hand old (Whole frame) new held keeps, (refl, subst HoldsPacket keeps.same (frame_holds frame new keeps.small), same_unread hand old (Whole frame) new None keeps))
frame_fails hand old frame new (Stream fault) held keeps e = (
  still_held hand old (Whole frame) new held keeps,
  (
    same_unread hand old (Whole frame) new (Some fault) keeps,
    inr (refl, subst (FaultAt fault) keeps.same (frame_fault frame new fault keeps.small e)),
  ),
)
