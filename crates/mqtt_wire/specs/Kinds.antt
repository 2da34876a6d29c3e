-- The first byte of a packet (sections 2.1.2 and 2.1.3): which kinds are read, and the byte of each.
use Rattle.std.specs.Prelude.{ℕ, ◌+◌, ◌*◌, ◌/◌, ◌%◌, ◌==◌, List, [], ◌∷◌, Option, Some, None, option_and_then, if◌then◌else◌}
use Rattle.mqtt_packet.specs.declared.packet.QoS.{QoS}
use Rattle.mqtt_packet.specs.declared.packet.QoS.TheVariants.{AtMostOnce, AtLeastOnce, ExactlyOnce}
use Rattle.mqtt_packet.specs.declared.packet.ForeignKind.{ForeignKind}
use Rattle.mqtt_packet.specs.declared.packet.ForeignKind.TheVariants as foreign
use Rattle.mqtt_fields.specs.Forms.{bit}
use Rattle.mqtt_wire.specs.declared.kind.Kind.{Kind}
use Rattle.mqtt_wire.specs.declared.kind.Kind.TheVariants.{Connect, Publish, Puback, Subscribe, Unsubscribe, Pingreq, Disconnect, Foreign}

-- 4.3 Quality of Service as two bits
abbrev pub qos_bits : QoS → ℕ
qos_bits AtMostOnce = 0
qos_bits AtLeastOnce = 1
qos_bits ExactlyOnce = 2

-- the quality of service of two bits: 3 is none
abbrev pub qos_at : ℕ → Option QoS
qos_at bits =
    if bits == 0 then Some AtMostOnce else (if bits == 1 then Some AtLeastOnce else (if bits == 2 then Some ExactlyOnce else None))

-- the kinds that a client has no business to send here (profile)
abbrev pub foreign_byte : ForeignKind → ℕ
foreign_byte foreign.Connack = 0x20
foreign_byte foreign.Pubrec = 0x50
foreign_byte foreign.Pubrel = 0x62
foreign_byte foreign.Pubcomp = 0x70
foreign_byte foreign.Suback = 0x90
foreign_byte foreign.Unsuback = 0xB0
foreign_byte foreign.Pingresp = 0xD0
foreign_byte foreign.Auth = 0xF0

-- the byte of each kind (tables 2-1 and 2-2)
abbrev pub first_byte : Kind → ℕ
first_byte Connect = 0x10
first_byte (Publish flags) = 0x30 + 8 * bit flags.dup + 2 * qos_bits flags.qos + bit flags.retain
first_byte Puback = 0x40
first_byte Subscribe = 0x82
first_byte Unsubscribe = 0xA2
first_byte Pingreq = 0xC0
first_byte Disconnect = 0xE0
first_byte (Foreign kind) = foreign_byte kind

-- 3.3.1: a byte from 30 to 3F is a PUBLISH, unless its QoS is 3
abbrev pub publish_at : ℕ → Option Kind
publish_at first =
    if first / 16 == 3 then option_and_then (λ qos. Some (Publish (record { dup = first / 8 % 2 == 1; qos = qos; retain = first % 2 == 1 }))) (qos_at (first / 2 % 4)) else None

-- the kinds but PUBLISH, each of which has one first byte
abbrev pub kinds_of_one_byte : List Kind
kinds_of_one_byte =
    Connect ∷ Puback ∷ Subscribe ∷ Unsubscribe ∷ Pingreq ∷ Disconnect
    ∷ Foreign foreign.Connack ∷ Foreign foreign.Pubrec ∷ Foreign foreign.Pubrel ∷ Foreign foreign.Pubcomp
    ∷ Foreign foreign.Suback ∷ Foreign foreign.Unsuback ∷ Foreign foreign.Pingresp ∷ Foreign foreign.Auth ∷ []

-- the one of these kinds that has the byte, or else a PUBLISH
abbrev pub kind_among : List Kind → ℕ → Option Kind
kind_among [] first = publish_at first
kind_among (kind ∷ kinds) first = if first == first_byte kind then Some kind else kind_among kinds first

-- the kind of a first byte: none where the byte is not in the table
abbrev pub kind_at : ℕ → Option Kind
kind_at first = kind_among kinds_of_one_byte first
