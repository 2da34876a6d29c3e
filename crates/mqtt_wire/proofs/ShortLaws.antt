-- Packets without properties, as they stand on a stream.
use Rattle.std.proofs.Common.{◌≡◌, ℕ, ◌+◌, ◌*◌, ◌/◌, ◌%◌, ◌<◌, ◌≤◌, List, [], ◌∷◌, ◌++◌, length, drop, get_or, Some, None, Ok, refl, subst, arith, le-ltb}
use Rattle.mqtt_packet.specs.declared.packet.Packet.{Packet}
use Rattle.mqtt_packet.specs.declared.packet.Packet.TheVariants as packets
use Rattle.mqtt_fields.specs.declared.property.Section.{Section}
use Rattle.mqtt_wire.specs.declared.splitter.InHand.TheVariants.{Nothing}
use Rattle.mqtt_fields.specs.Forms.{variable_bytes, u16_bytes, AreBytes}
use Rattle.mqtt_fields.specs.Fields.{variable_field_at, variable_at}
use Rattle.mqtt_fields.specs.Properties.{nothing}
use Rattle.mqtt_fields.specs.Sections.{gathered_at, properties_at}
use Rattle.mqtt_wire.specs.Writing.{framed}
use Rattle.mqtt_wire.specs.Spelling.{Spells}
use Rattle.mqtt_wire.specs.Frame.{IsHeld, TakesShort, TakesPacket}
use Rattle.mqtt_wire.proofs.NextLaws.{back_bytes}

empty_from : (section : Section) (byte : ℕ) (rest : List ℕ) → byte ≡ 0 → properties_at section (byte ∷ rest) ≡ Ok (nothing, rest)
unfolding properties_at variable_field_at variable_at gathered_at
empty_from section byte rest is = rw (is, le-ltb (length rest) 0 (omega arith)) refl

-- a section whose length is 0
pub empty_section : (section : Section) (bytes : List ℕ) → 1 ≤ length bytes → get_or bytes 0 0 ≡ 0 → properties_at section bytes ≡ Ok (nothing, drop 1 bytes)
empty_section section [] some is = absurd (omega arith)
empty_section section (byte ∷ rest) some is = empty_from section byte rest is

-- the packet of an acknowledgement of that identifier, and of a client that leaves
abbrev acknowledgement : ℕ → Packet
acknowledgement identifier = packets.Puback (record { packet_identifier = identifier; reason_code = 0; properties = record { reason_string = None; user_properties = [] } })

abbrev leaving : Packet
leaving = packets.Disconnect (record { reason_code = 0; properties = record { session_expiry_interval = None; reason_string = None; user_properties = [] } })

acknowledgement_spelled : (identifier : ℕ) → 0 < identifier → identifier < 65536 → Spells (acknowledgement identifier) (framed 0x40 (u16_bytes identifier))
unfolding variable_bytes
acknowledgement_spelled identifier some small = record {
  client = (some, small);
  fits = record { reason_string = tt; user_properties = tt };
  body = u16_bytes identifier;
  spelled = record { all = nothing; reason = []; spelled = (refl, refl); properties_are = refl; parts = refl };
  parts = refl;
  size = omega arith;
}

leaving_spelled : Spells leaving (framed 0xE0 [])
unfolding variable_bytes
leaving_spelled = record {
  client = tt;
  fits = record { session_expiry_interval = tt; reason_string = tt; user_properties = tt };
  body = [];
  spelled = record { all = nothing; spelled = (refl, refl); properties_are = refl };
  parts = refl;
  size = omega arith;
}

short_front : (first remaining high low identifier : ℕ) (rest : List ℕ) → first ≡ 0x40 → remaining ≡ 2 → identifier ≡ 256 * high + low → low < 256 → first ∷ remaining ∷ high ∷ low ∷ rest ≡ framed 0x40 (u16_bytes identifier) ++ rest
unfolding variable_bytes
short_front first remaining high low identifier rest f r is small =
    let high_is : high ≡ identifier / 256 = omega arith in
    let low_is : low ≡ identifier % 256 = omega arith in
    rw (f, r, high_is, low_is) refl

-- a PUBACK of four bytes in front
pub short_puback : (bytes : List ℕ) (identifier : ℕ) → 4 ≤ length bytes → get_or bytes 0 0 ≡ 0x40 → get_or bytes 1 0 ≡ 2 → identifier ≡ 256 * get_or bytes 2 0 + get_or bytes 3 0 → get_or bytes 3 0 < 256 → 0 < identifier → identifier < 65536 → TakesShort bytes (Some (acknowledgement identifier)) (drop 4 bytes)
short_puback [] identifier long f r is small some fits = absurd (omega arith)
short_puback (a ∷ []) identifier long f r is small some fits = absurd (omega arith)
short_puback (a ∷ b ∷ []) identifier long f r is small some fits = absurd (omega arith)
short_puback (a ∷ b ∷ c ∷ []) identifier long f r is small some fits = absurd (omega arith)
short_puback (a ∷ b ∷ c ∷ d ∷ rest) identifier long f r is small some fits =
    (framed 0x40 (u16_bytes identifier), acknowledgement_spelled identifier some fits, short_front a b c d identifier rest f r is small)

leaving_front : (first remaining : ℕ) (rest : List ℕ) → first ≡ 0xE0 → remaining ≡ 0 → first ∷ remaining ∷ rest ≡ framed 0xE0 [] ++ rest
unfolding variable_bytes
leaving_front first remaining rest f r = rw (f, r) refl

-- a DISCONNECT of two bytes in front
pub short_disconnect : (bytes : List ℕ) → 2 ≤ length bytes → get_or bytes 0 0 ≡ 0xE0 → get_or bytes 1 0 ≡ 0 → TakesShort bytes (Some leaving) (drop 2 bytes)
short_disconnect [] long f r = absurd (omega arith)
short_disconnect (a ∷ []) long f r = absurd (omega arith)
short_disconnect (a ∷ b ∷ rest) long f r = (framed 0xE0 [], leaving_spelled, leaving_front a b rest f r)

-- a short packet is the next one
pub takes_short : (old : List ℕ) (packet : Packet) (new : List ℕ) → IsHeld Nothing old → TakesShort old (Some packet) new → TakesPacket Nothing old (Ok (Some packet)) Nothing new
takes_short old packet new held taken = (
  (tt, back_bytes taken.0 new (subst AreBytes taken.2 held.1)),
  record { front = taken.0; spelled = taken.1; parts = taken.2; sound = refl; goes_on = refl },
)
