-- A PUBLISH that hands a message on is as long at whatever moment, and under whatever Packet Identifier; and which packets a client takes.
use Rattle.std.proofs.Common.{◌≡◌, ℕ, ◌+◌, ◌≤◌, nat_lt, Bool, true, false, if◌then◌else◌, length, Option, Some, None, refl, sym, ap, ◌∙◌, arith, le-ltb, ltb-false}
use Rattle.mqtt_packet.specs.declared.packet.Delivery.TheVariants.{AtLeastOnce}
use Rattle.mqtt_packet.specs.declared.packet.Packet.{Packet}
use Rattle.mqtt_packet.specs.declared.packet.Publish.{Publish}
use Rattle.mqtt_fields.specs.Forms.{variable_byte_integer}
use Rattle.mqtt_fields.specs.PropertyLists.{optional, publish_list}
use Rattle.mqtt_fields.specs.declared.property.Property.TheVariants.{MessageExpiryInterval}
use Rattle.mqtt_wire.specs.Writing.{written, written_size, remaining_length}
use Rattle.mqtt_fields.proofs.PropertySizeLaws.{publish_length}
use Rattle.mqtt_wire.proofs.WritingLaws.{properties_size, publish_size, written_length}
use Rattle.group_jobs.specs.declared.message.MessageExpiry.{MessageExpiry}
use Rattle.group_jobs.specs.declared.message.Message.{Message}
use Rattle.conn_rules.specs.Expiring.{interval_left}
use Rattle.conn_rules.specs.Packets.{job}
use Rattle.conn_laws.specs.Sizes.{bytes_for_all, IsSmall, IsShort}
use Rattle.conn_laws.specs.PacketSizes.{Takes, TakesSmall}
use Rattle.conn_laws.proofs.Lengths as lengths

-- the PUBLISH that hands a message on
abbrev published : ℕ → Bool → Message → Option ℕ → ℕ → Publish
published now dup message subscription identifier = record {
  dup = dup;
  retain = false;
  delivery = AtLeastOnce identifier;
  message_expiry_interval = interval_left now message.expiry;
  subscription_identifier = subscription;
  topic = message.topic;
  properties = message.properties;
  payload = message.payload;
}

-- an interval has four bytes, whatever is left of it
interval_length : (now later : ℕ) (expiry : Option MessageExpiry) → length (optional MessageExpiryInterval (interval_left now expiry)) ≡ length (optional MessageExpiryInterval (interval_left later expiry))
interval_length now later None = refl
interval_length now later (Some expiry) = refl

list_length : (now later : ℕ) (dup dup' : Bool) (message : Message) (subscription : Option ℕ) (identifier identifier' : ℕ)
    → length (publish_list (published now dup message subscription identifier)) ≡ length (publish_list (published later dup' message subscription identifier'))
list_length now later dup dup' message subscription identifier identifier' =
    omega (arith, publish_length (published now dup message subscription identifier), publish_length (published later dup' message subscription identifier'), interval_length now later message.expiry)

-- its Remaining Length, by that of its properties
body_length : (now : ℕ) (dup : Bool) (message : Message) (subscription : Option ℕ) (identifier : ℕ) → remaining_length (job now dup message subscription identifier)
    ≡ 4 + length message.topic + length (variable_byte_integer (length (publish_list (published now dup message subscription identifier))))
    + length (publish_list (published now dup message subscription identifier)) + length message.payload
unfolding remaining_length
body_length now dup message subscription identifier =
    omega (arith, publish_size (published now dup message subscription identifier), properties_size (publish_list (published now dup message subscription identifier)))

same_body : (now later : ℕ) (dup dup' : Bool) (message : Message) (subscription : Option ℕ) (identifier identifier' : ℕ)
    → remaining_length (job now dup message subscription identifier) ≡ remaining_length (job later dup' message subscription identifier')
same_body now later dup dup' message subscription identifier identifier' =
    body_length now dup message subscription identifier
    ∙ ap (λ (n : ℕ). 4 + length message.topic + length (variable_byte_integer n) + n + length message.payload) (list_length now later dup dup' message subscription identifier identifier')
    ∙ sym (body_length later dup' message subscription identifier')

-- how many bytes a packet of this Remaining Length is written in
abbrev size_by : ℕ → ℕ
size_by remaining = if nat_lt 268435455 remaining then 18446744073709551615 else 1 + length (variable_byte_integer remaining) + remaining

sized_by : (packet : Packet) → written_size packet ≡ size_by (remaining_length packet)
unfolding written_size
sized_by packet = ap (λ (n : ℕ). if nat_lt 268435455 (remaining_length packet) then 18446744073709551615 else n) (written_length packet)

same_size : (now later : ℕ) (dup dup' : Bool) (message : Message) (subscription : Option ℕ) (identifier identifier' : ℕ)
    → written_size (job now dup message subscription identifier) ≡ written_size (job later dup' message subscription identifier')
same_size now later dup dup' message subscription identifier identifier' =
    sized_by (job now dup message subscription identifier)
    ∙ ap size_by (same_body now later dup dup' message subscription identifier identifier')
    ∙ sym (sized_by (job later dup' message subscription identifier'))

-- a client takes it at one moment where it takes it at another
pub taken_alike : (maximum : Option ℕ) (now later : ℕ) (dup dup' : Bool) (message : Message) (subscription : Option ℕ) (identifier identifier' : ℕ)
    → Takes maximum (job now dup message subscription identifier) → Takes maximum (job later dup' message subscription identifier')
taken_alike None now later dup dup' message subscription identifier identifier' takes = refl
taken_alike (Some maximum) now later dup dup' message subscription identifier identifier' takes =
    ap (nat_lt maximum) (same_size later now dup' dup message subscription identifier' identifier) ∙ takes

-- a packet of at most so many bytes
pub taken_within : (most : ℕ) (maximum : ℕ) (packet : Packet) → IsShort packet → length (written packet) ≤ most → most ≤ maximum → Takes (Some maximum) packet
taken_within most maximum packet short few less =
    let within : written_size packet ≤ maximum = omega (arith, lengths.sized packet short, few, less) in
    le-ltb maximum (written_size packet) within

-- who takes each packet of 64 bytes takes a small one
pub small_taken : (maximum : Option ℕ) (packet : Packet) → TakesSmall maximum → IsSmall packet → Takes maximum packet
small_taken None packet takes small = refl
small_taken (Some maximum) packet takes small = taken_within bytes_for_all maximum packet (omega (arith, small)) small takes

-- a packet that is taken has at most so many bytes as four bytes can name
shorter : (many : Bool) (size maximum : ℕ) → maximum ≤ 4294967295 → nat_lt maximum (if many then 18446744073709551615 else size) ≡ false → size ≤ maximum
shorter true size maximum few takes =
    let less : 18446744073709551615 ≤ maximum = ltb-false maximum 18446744073709551615 takes in
    absurd (omega (arith, few, less))
shorter false size maximum few takes = ltb-false maximum size takes

pub measured : (maximum : ℕ) (packet : Packet) → maximum ≤ 4294967295 → Takes (Some maximum) packet → length (written packet) ≤ maximum
unfolding written_size
measured maximum packet few takes = shorter (nat_lt 268435455 (remaining_length packet)) (length (written packet)) maximum few takes
