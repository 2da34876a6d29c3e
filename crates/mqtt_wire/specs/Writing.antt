-- The one form in which each packet is written (chapter 3).
use Rattle.std.specs.Prelude.{ℕ, zero, suc, ◌+◌, ◌*◌, ◌==◌, codes, nat_lt, if◌then◌else◌, List, [], ◌∷◌, ◌++◌, length, is_some}
use Rattle.std.specs.List.{flat_map}
use Rattle.mqtt_packet.specs.declared.packet.QoS.{QoS}
use Rattle.mqtt_packet.specs.declared.packet.QoS.TheVariants as qos
use Rattle.mqtt_packet.specs.declared.packet.RetainHandling.{RetainHandling}
use Rattle.mqtt_packet.specs.declared.packet.RetainHandling.TheVariants.{Send, SendIfNew, DoNotSend}
use Rattle.mqtt_packet.specs.declared.packet.Delivery.{Delivery}
use Rattle.mqtt_packet.specs.declared.packet.Delivery.TheVariants.{AtMostOnce, AtLeastOnce, ExactlyOnce}
use Rattle.mqtt_packet.specs.declared.packet.Connect.{Connect}
use Rattle.mqtt_packet.specs.declared.packet.Publish.{Publish}
use Rattle.mqtt_packet.specs.declared.packet.Puback.{Puback}
use Rattle.mqtt_packet.specs.declared.packet.Subscribe.{Subscribe}
use Rattle.mqtt_packet.specs.declared.packet.Unsubscribe.{Unsubscribe}
use Rattle.mqtt_packet.specs.declared.packet.Subscription.{Subscription}
use Rattle.mqtt_packet.specs.declared.packet.SubscriptionOptions.{SubscriptionOptions}
use Rattle.mqtt_packet.specs.declared.packet.Packet.{Packet}
use Rattle.mqtt_packet.specs.declared.packet.Packet.TheVariants as packets
use Rattle.mqtt_packet.specs.declared.packet.ForeignKind.TheVariants as foreign
use Rattle.mqtt_wire.specs.declared.kind.Kind.TheVariants as kinds
use Rattle.mqtt_wire.specs.declared.kind.PublishFlags.{PublishFlags}
use Rattle.mqtt_fields.specs.Forms.{u16_bytes, variable_byte_integer, binary_data, utf8_string, bit}
use Rattle.mqtt_fields.specs.Sections.{properties}
use Rattle.mqtt_fields.specs.PropertyLists.{bytes_if, connect_list, publish_list, puback_list, subscribe_list, unsubscribe_list, disconnect_list}
use Rattle.mqtt_wire.specs.Connacks.{connack_body}
use Rattle.mqtt_wire.specs.Kinds.{qos_bits, foreign_byte, first_byte}

-- 3.3.1.2: the quality of service of a PUBLISH
abbrev pub qos_of : Delivery → QoS
qos_of AtMostOnce = qos.AtMostOnce
qos_of (AtLeastOnce identifier) = qos.AtLeastOnce
qos_of (ExactlyOnce identifier) = qos.ExactlyOnce

-- 3.3.2.2: the Packet Identifier, where there is one
abbrev pub delivery_bytes : Delivery → List ℕ
delivery_bytes AtMostOnce = []
delivery_bytes (AtLeastOnce identifier) = u16_bytes identifier
delivery_bytes (ExactlyOnce identifier) = u16_bytes identifier

-- 3.4.2 and 3.14.2: the Reason Code, and the length of so many bytes of properties; with none the length is left out, and
-- then a Reason Code of 0 too
abbrev pub reason_front : ℕ → ℕ → List ℕ
reason_front code zero = if code == 0 then [] else code ∷ []
reason_front code (suc size) = code ∷ variable_byte_integer (suc size)

-- .. and the properties after them
abbrev pub reason_bytes : ℕ → List ℕ → List ℕ
reason_bytes code list = reason_front code (length list) ++ list

abbrev pub retain_handling_bits : RetainHandling → ℕ
retain_handling_bits Send = 0
retain_handling_bits SendIfNew = 1
retain_handling_bits DoNotSend = 2

-- 3.8.3.1 Subscription Options
abbrev pub options_byte : SubscriptionOptions → ℕ
options_byte o = qos_bits o.maximum_qos + 4 * bit o.no_local + 8 * bit o.retain_as_published + 16 * retain_handling_bits o.retain_handling

-- 3.8.3: a Topic Filter and its options
abbrev pub subscription_bytes : Subscription → List ℕ
subscription_bytes s = utf8_string s.filter ++ options_byte s.options ∷ []

-- 3.1.2.1 and 3.1.2.2: the Protocol Name and the Protocol Version
abbrev pub protocol : List ℕ
protocol = utf8_string (codes "MQTT") ++ 5 ∷ []

-- 3.1.2.3 Connect Flags
abbrev pub connect_flags : Connect → ℕ
connect_flags c = 2 * bit c.clean_start + 64 * bit (is_some c.password) + 128 * bit (is_some c.user_name)

-- 3.1.3: Client Identifier, User Name, Password
abbrev pub connect_payload : Connect → List ℕ
connect_payload c = utf8_string c.client_identifier ++ (bytes_if utf8_string c.user_name ++ bytes_if binary_data c.password)

-- 3.1.2 and 3.1.3: protocol, Connect Flags, Keep Alive, properties, and the payload
abbrev pub connect_body : Connect → List ℕ
connect_body c = protocol ++ (connect_flags c ∷ u16_bytes c.keep_alive ++ (properties (connect_list c.properties) ++ connect_payload c))

-- 3.3.2 and 3.3.3: topic, identifier, properties, payload
abbrev pub publish_body : Publish → List ℕ
publish_body p = utf8_string p.topic ++ (delivery_bytes p.delivery ++ (properties (publish_list p) ++ p.payload))

-- 3.4.2: identifier, and the Reason Code with the properties
abbrev pub puback_body : Puback → List ℕ
puback_body p = u16_bytes p.packet_identifier ++ reason_bytes p.reason_code (puback_list p.properties)

-- 3.8.2 and 3.8.3: identifier, properties, entries
abbrev pub subscribe_body : Subscribe → List ℕ
subscribe_body s = u16_bytes s.packet_identifier ++ (properties (subscribe_list s.properties) ++ flat_map subscription_bytes s.subscriptions)

-- 3.9.2 and 3.9.3, 3.11.2 and 3.11.3: identifier, no properties, and a Reason Code for each entry
abbrev pub codes_body : ℕ → List ℕ → List ℕ
codes_body identifier codes = u16_bytes identifier ++ (properties [] ++ codes)

-- 3.10.2 and 3.10.3: identifier, properties, filters
abbrev pub unsubscribe_body : Unsubscribe → List ℕ
unsubscribe_body u = u16_bytes u.packet_identifier ++ (properties (unsubscribe_list u.properties) ++ flat_map utf8_string u.filters)

-- The body in which a packet is written. Of one whose body is not looked at when it is read, it is the shortest that is
-- read so.
abbrev pub written_body : Packet → List ℕ
written_body (packets.Connect c) = connect_body c
written_body (packets.Connack c) = connack_body c
written_body (packets.Publish p) = publish_body p
written_body (packets.Puback p) = puback_body p
written_body (packets.Subscribe s) = subscribe_body s
written_body (packets.Suback s) = codes_body s.packet_identifier s.reason_codes
written_body (packets.Unsubscribe u) = unsubscribe_body u
written_body (packets.Unsuback u) = codes_body u.packet_identifier u.reason_codes
written_body packets.Pingreq = []
written_body packets.Pingresp = []
written_body (packets.Disconnect d) = reason_bytes d.reason_code (disconnect_list d.properties)
written_body (packets.Foreign kind) = []
written_body (packets.OtherVersion version) = utf8_string [] ++ version ∷ []
written_body packets.WithWill = protocol ++ 4 ∷ []

-- 3.3.1: the flags of a PUBLISH
abbrev pub flags_of : Publish → PublishFlags
flags_of p = record { dup = p.dup; qos = qos_of p.delivery; retain = p.retain }

-- the first byte of a packet
abbrev pub packet_byte : Packet → ℕ
packet_byte (packets.Connect c) = first_byte kinds.Connect
packet_byte (packets.Connack c) = foreign_byte foreign.Connack
packet_byte (packets.Publish p) = first_byte (kinds.Publish (flags_of p))
packet_byte (packets.Puback p) = first_byte kinds.Puback
packet_byte (packets.Subscribe s) = first_byte kinds.Subscribe
packet_byte (packets.Suback s) = foreign_byte foreign.Suback
packet_byte (packets.Unsubscribe u) = first_byte kinds.Unsubscribe
packet_byte (packets.Unsuback u) = foreign_byte foreign.Unsuback
packet_byte packets.Pingreq = first_byte kinds.Pingreq
packet_byte packets.Pingresp = foreign_byte foreign.Pingresp
packet_byte (packets.Disconnect d) = first_byte kinds.Disconnect
packet_byte (packets.Foreign kind) = foreign_byte kind
packet_byte (packets.OtherVersion version) = first_byte kinds.Connect
packet_byte packets.WithWill = first_byte kinds.Connect

-- 2.1: a header and the body after it
abbrev pub framed : ℕ → List ℕ → List ℕ
framed first body = first ∷ variable_byte_integer (length body) ++ body

-- the one written form of a packet
unfoldable pub written : Packet → List ℕ
written packet = framed (packet_byte packet) (written_body packet)

-- the Remaining Length in which a packet is written (2.1.4)
unfoldable pub remaining_length : Packet → ℕ
remaining_length packet = length (written_body packet)

-- how many bytes a packet is written in: the greatest number of a `u64` where its Remaining Length can't be said (2.1.4)
unfoldable pub written_size : Packet → ℕ
written_size packet = if nat_lt 268435455 (remaining_length packet) then 18446744073709551615 else length (written packet)
