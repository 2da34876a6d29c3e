-- Which bytes spell a packet of a client (chapter 3).
use Rattle.std.specs.Prelude.{◌≡◌, ℕ, ◌≤◌, false, IsTrue, List, [], ◌∷◌, ◌++◌, length, Ok}
use Rattle.std.specs.List.{flat_map}
use Rattle.limits.specs.Limits.{most_bytes}
use Rattle.mqtt_packet.specs.declared.packet.Packet.{Packet}
use Rattle.mqtt_packet.specs.declared.packet.Packet.TheVariants as packets
use Rattle.mqtt_packet.specs.declared.packet.Connect.{Connect}
use Rattle.mqtt_packet.specs.declared.packet.Publish.{Publish}
use Rattle.mqtt_packet.specs.declared.packet.Puback.{Puback}
use Rattle.mqtt_packet.specs.declared.packet.Subscribe.{Subscribe}
use Rattle.mqtt_packet.specs.declared.packet.Unsubscribe.{Unsubscribe}
use Rattle.mqtt_packet.specs.declared.packet.Disconnect.{Disconnect}
use Rattle.mqtt_fields.specs.declared.property.Section.{Section}
use Rattle.mqtt_fields.specs.declared.property.Section.TheVariants as sections
use Rattle.mqtt_fields.specs.declared.properties.Properties.{Properties}
use Rattle.mqtt_fields.specs.Properties.{nothing}
use Rattle.mqtt_fields.specs.Sections.{SpellsProperties}
use Rattle.mqtt_fields.specs.PropertyLists.{connect_of, publish_of, puback_of, subscribe_of, unsubscribe_of, disconnect_of}
use Rattle.mqtt_packet.specs.Texts.{IsText}
use Rattle.mqtt_fields.specs.Forms.{u16_bytes, utf8_string}
use Rattle.mqtt_wire.specs.Protocol.{is_mqtt_5, are_connect_flags, has_will}
use Rattle.mqtt_wire.specs.Ranges.{IsFromClient, PropertiesFit}
use Rattle.mqtt_wire.specs.Writing.{protocol, connect_flags, connect_payload, delivery_bytes, subscription_bytes, packet_byte, framed}

-- 3.4.2 and 3.14.2: a Reason Code of 0 may be left out, and so may an empty section of properties after it
abbrev pub SpellsReason : Section → ℕ → Properties → List ℕ → Type 0
SpellsReason section code all [] = (code ≡ 0) × (all ≡ nothing)
SpellsReason section code all (byte ∷ []) = (byte ≡ code) × (all ≡ nothing)
SpellsReason section code all (byte ∷ next ∷ rest) = (byte ≡ code) × SpellsProperties section all (next ∷ rest)

-- a CONNECT of another name or version, and anything after that
abbrev pub SpellsOtherVersion : ℕ → List ℕ → Type 0
SpellsOtherVersion version body = (name : List ℕ) × (rest : List ℕ) × (body ≡ utf8_string name ++ (version ∷ rest)) × IsText name × (is_mqtt_5 name version ≡ false)

-- a CONNECT of version 5 with a will in lawful flags, and anything after them
abbrev pub SpellsWithWill : List ℕ → Type 0
SpellsWithWill body = (flags : ℕ) × (rest : List ℕ) × (body ≡ protocol ++ (flags ∷ rest)) × IsTrue (are_connect_flags flags) × IsTrue (has_will flags)

-- 3.1: the fields in their order, and a section of the properties
pub record SpellsConnect (c : Connect) (body : List ℕ) : Type 0 where
  pub all : Properties
  pub section : List ℕ
  pub spelled : SpellsProperties sections.Connect all section
  pub properties_are : connect_of all ≡ Ok c.properties
  pub parts : body ≡ protocol ++ (connect_flags c ∷ u16_bytes c.keep_alive ++ (section ++ connect_payload c))

-- 3.3
pub record SpellsPublish (p : Publish) (body : List ℕ) : Type 0 where
  pub all : Properties
  pub section : List ℕ
  pub spelled : SpellsProperties sections.Publish all section
  pub expiry_is : all.message_expiry_interval ≡ p.message_expiry_interval
  pub properties_are : publish_of all ≡ p.properties
  pub parts : body ≡ utf8_string p.topic ++ (delivery_bytes p.delivery ++ (section ++ p.payload))

-- 3.4
pub record SpellsPuback (p : Puback) (body : List ℕ) : Type 0 where
  pub all : Properties
  pub reason : List ℕ
  pub spelled : SpellsReason sections.Puback p.reason_code all reason
  pub properties_are : puback_of all ≡ p.properties
  pub parts : body ≡ u16_bytes p.packet_identifier ++ reason

-- 3.8
pub record SpellsSubscribe (s : Subscribe) (body : List ℕ) : Type 0 where
  pub all : Properties
  pub section : List ℕ
  pub spelled : SpellsProperties sections.Subscribe all section
  pub properties_are : subscribe_of all ≡ s.properties
  pub parts : body ≡ u16_bytes s.packet_identifier ++ (section ++ flat_map subscription_bytes s.subscriptions)

-- 3.10
pub record SpellsUnsubscribe (u : Unsubscribe) (body : List ℕ) : Type 0 where
  pub all : Properties
  pub section : List ℕ
  pub spelled : SpellsProperties sections.Unsubscribe all section
  pub properties_are : unsubscribe_of all ≡ u.properties
  pub parts : body ≡ u16_bytes u.packet_identifier ++ (section ++ flat_map utf8_string u.filters)

-- 3.14
pub record SpellsDisconnect (d : Disconnect) (body : List ℕ) : Type 0 where
  pub all : Properties
  pub spelled : SpellsReason sections.Disconnect d.reason_code all body
  pub properties_are : disconnect_of all ≡ d.properties

-- the bytes are a body of the packet
abbrev pub SpellsBody : Packet → List ℕ → Type 0
SpellsBody (packets.Connect c) body = SpellsConnect c body
SpellsBody (packets.Connack c) body = ⊥
SpellsBody (packets.Publish p) body = SpellsPublish p body
SpellsBody (packets.Puback p) body = SpellsPuback p body
SpellsBody (packets.Subscribe s) body = SpellsSubscribe s body
SpellsBody (packets.Suback s) body = ⊥
SpellsBody (packets.Unsubscribe u) body = SpellsUnsubscribe u body
SpellsBody (packets.Unsuback u) body = ⊥
SpellsBody packets.Pingreq body = body ≡ []
SpellsBody packets.Pingresp body = ⊥
SpellsBody (packets.Disconnect d) body = SpellsDisconnect d body
SpellsBody (packets.Foreign kind) body = Unit {0}
SpellsBody (packets.OtherVersion version) body = SpellsOtherVersion version body
SpellsBody packets.WithWill body = SpellsWithWill body

-- the most bytes that a packet has in all (profile)
abbrev pub maximum_packet_size : ℕ
maximum_packet_size = most_bytes

-- 2.1: the bytes are a whole packet: its header and a body of it, of at most 65,536 bytes in all
pub record Spells (packet : Packet) (bytes : List ℕ) : Type 0 where
  pub client : IsFromClient packet
  pub fits : PropertiesFit packet
  pub body : List ℕ
  pub spelled : SpellsBody packet body
  pub parts : bytes ≡ framed (packet_byte packet) body
  pub size : length bytes ≤ maximum_packet_size
