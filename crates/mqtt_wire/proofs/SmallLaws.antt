-- A packet with a small body, as it stands on a stream.
use Rattle.std.proofs.Common.{◌≡◌, ℕ, ◌+◌, ◌≤◌, List, ◌++◌, length, take, drop, Option, None, Some, Result, Ok, Err, Bor, refl, sym, ap, ◌∙◌, subst, arith, length-append, length-drop}
use Rattle.std.specs.Result.{result_ok}
use Rattle.std.proofs.lemmas.List.{drop_at}
use Rattle.std.proofs.lemmas.Option.{none-some, same_Some}
use Rattle.mqtt_fields.specs.declared.fault.StreamFault.{StreamFault}
use Rattle.mqtt_fields.specs.declared.fault.Fault.{Fault}
use Rattle.mqtt_packet.specs.declared.packet.Packet.{Packet}
use Rattle.mqtt_wire.specs.declared.header.FixedHeader.{FixedHeader}
use Rattle.mqtt_wire.specs.declared.frame.Frame.{Frame}
use Rattle.mqtt_wire.specs.declared.splitter.InHand.TheVariants.{Nothing, Headed, Whole}
use Rattle.mqtt_fields.specs.Faults.{Gives}
use Rattle.mqtt_wire.specs.Bodies.{body_at}
use Rattle.mqtt_fields.specs.Forms.{AreBytes}
use Rattle.mqtt_wire.specs.Stream.{Header, header_at}
use Rattle.mqtt_wire.specs.Frame.{header_with, frame_bytes, GivesHeader, Keeps, TakesShort}
use Rattle.mqtt_wire.proofs.NextLaws.{frame_body_bytes, frame_spells, keeps_body, keeps_header, keeps_on}

-- the header, the body and the packet that were read of the bytes in front
pub small_front : (old : List ℕ) (header : FixedHeader) (rest : List ℕ) (body : List ℕ) (packet : Packet) (size : ℕ) → AreBytes old → header_at old ≡ Ok (Some (header_with header rest))
    → header.remaining ≤ length rest → body ≡ take header.remaining rest → body_at header.kind body ≡ Ok packet → size + length rest ≡ length old + header.remaining
    → TakesShort old (Some packet) (drop size old)
small_front old header rest body packet size fits found whole is read many =
    let frame : Frame = record { kind = header.kind; body = body } in
    let behind : List ℕ = drop header.remaining rest in
    let headed = keeps_header old header rest fits found in
    let keeps : Keeps Nothing old (Whole frame) behind =
    keeps_on Nothing old (Headed header) rest (Whole frame) behind headed (keeps_body header rest frame behind headed.small (record { whole = whole; kind = refl; body = is; rest = refl })) in
    let parts : frame_bytes frame ++ behind ≡ old = keeps.same in
    let front : size ≡ length (frame_bytes frame) = omega (arith, many, ap length parts, length-append (frame_bytes frame) behind, length-drop header.remaining rest) in (
      frame_bytes frame,
      frame_spells frame packet keeps.small (frame_body_bytes frame behind (subst AreBytes (sym parts) fits)) read,
      sym parts ∙ ap (λ l. frame_bytes frame ++ l) (sym (ap (drop size) (sym parts) ∙ drop_at (frame_bytes frame) behind size (sym front))),
    )

-- the same of what the calls answer, where neither refuses
pub header_given : (read : Result (Option (FixedHeader × Bor (List ℕ))) StreamFault) (defined : Result (Option Header) StreamFault) (header : FixedHeader) (rest : Bor (List ℕ))
    → Some (Some (header, rest)) ≡ result_ok read → GivesHeader read defined → defined ≡ Ok (Some (header_with header rest.now))
header_given (Ok None) defined header rest some gives = absurd (none-some (header, rest) (same_Some None (Some (header, rest)) (sym some)))
header_given (Ok (Some found)) defined header rest some gives =
    gives ∙ ap (λ (f : FixedHeader × Bor (List ℕ)). Ok (Some (header_with f.0 f.1.now))) (same_Some found (header, rest) (same_Some (Some found) (Some (header, rest)) (sym some)))
header_given (Err fault) defined header rest some gives = absurd (none-some (Some (header, rest)) (sym some))

pub packet_given : (read : Result Packet Fault) (defined : Result Packet StreamFault) (packet : Packet) → Some packet ≡ result_ok read → Gives (λ (p : Packet). p) read defined → defined ≡ Ok packet
packet_given (Ok found) defined packet some gives = gives ∙ ap (λ (p : Packet). Ok p) (same_Some found packet (sym some))
packet_given (Err fault) defined packet some gives = absurd (none-some packet (sym some))
