-- The body of each kind of packet, read field by field: the packet, or the first fault (chapter 3).
use Rattle.std.specs.Prelude.{ℕ, zero, suc, ◌/◌, ◌%◌, ◌==◌, nat_lt, if◌then◌else◌, List, [], ◌∷◌, length, Option, Some, None, Result, Ok, Err}
use Rattle.mqtt_fields.specs.declared.fault.StreamFault.{StreamFault}
use Rattle.mqtt_fields.specs.declared.fault.StreamFault.TheVariants.{Malformed, Protocol}
use Rattle.mqtt_packet.specs.declared.packet.QoS.{QoS}
use Rattle.mqtt_packet.specs.declared.packet.QoS.TheVariants as qos
use Rattle.mqtt_packet.specs.declared.packet.RetainHandling.{RetainHandling}
use Rattle.mqtt_packet.specs.declared.packet.RetainHandling.TheVariants.{Send, SendIfNew, DoNotSend}
use Rattle.mqtt_packet.specs.declared.packet.Delivery.{Delivery}
use Rattle.mqtt_packet.specs.declared.packet.Delivery.TheVariants.{AtMostOnce, AtLeastOnce, ExactlyOnce}
use Rattle.mqtt_packet.specs.declared.packet.Disconnect.{Disconnect}
use Rattle.mqtt_packet.specs.declared.packet.Publish.{Publish}
use Rattle.mqtt_packet.specs.declared.packet.Puback.{Puback}
use Rattle.mqtt_packet.specs.declared.packet.Subscribe.{Subscribe}
use Rattle.mqtt_packet.specs.declared.packet.Subscription.{Subscription}
use Rattle.mqtt_packet.specs.declared.packet.Unsubscribe.{Unsubscribe}
use Rattle.mqtt_packet.specs.declared.packet.SubscriptionOptions.{SubscriptionOptions}
use Rattle.mqtt_packet.specs.declared.packet.Packet.{Packet}
use Rattle.mqtt_packet.specs.declared.packet.Packet.TheVariants as packets
use Rattle.mqtt_wire.specs.declared.kind.Kind.{Kind}
use Rattle.mqtt_wire.specs.declared.kind.Kind.TheVariants as kinds
use Rattle.mqtt_wire.specs.declared.kind.PublishFlags.{PublishFlags}
use Rattle.mqtt_fields.specs.Faults.{◌>>=◌}
use Rattle.mqtt_wire.specs.Kinds.{qos_at}
use Rattle.mqtt_fields.specs.Fields.{Field, byte_at, text_at, identifier_at, at_end}
use Rattle.mqtt_fields.specs.declared.property.Section.{Section}
use Rattle.mqtt_fields.specs.declared.property.Section.TheVariants as sections
use Rattle.mqtt_fields.specs.declared.properties.Properties.{Properties}
use Rattle.mqtt_fields.specs.Properties.{nothing}
use Rattle.mqtt_fields.specs.Sections.{properties_at}
use Rattle.mqtt_wire.specs.ConnectBody.{connect_at}
use Rattle.mqtt_fields.specs.PropertyLists.{publish_of, puback_of, subscribe_of, unsubscribe_of, disconnect_of}

-- 3.3.2.2: there is an identifier where the QoS is not 0
unfoldable pub delivery_at : QoS → List ℕ → Field Delivery
delivery_at qos.AtMostOnce bytes = Ok (AtMostOnce, bytes)
delivery_at qos.AtLeastOnce bytes = identifier_at bytes >>= λ identifier. Ok (AtLeastOnce identifier.0, identifier.1)
delivery_at qos.ExactlyOnce bytes = identifier_at bytes >>= λ identifier. Ok (ExactlyOnce identifier.0, identifier.1)

-- 3.3 PUBLISH: what is left behind the properties is the payload. A client's has no Subscription Identifier (3.3.4)
unfoldable pub publish_body_at : PublishFlags → List ℕ → Result Publish StreamFault
publish_body_at flags body = do
  topic ← text_at body
  delivery ← delivery_at flags.qos topic.1
  all ← properties_at sections.Publish delivery.1
  Ok (record { dup = flags.dup; retain = flags.retain; delivery = delivery.0; message_expiry_interval = all.0.message_expiry_interval; subscription_identifier = None; topic = topic.0; properties = publish_of all.0; payload = all.1 })

-- properties with nothing after them
unfoldable pub last_properties_at : Section → List ℕ → Result Properties StreamFault
last_properties_at section bytes = properties_at section bytes >>= λ all. at_end all.0 all.1

-- 3.4.2 and 3.14.2: a reason code, 0 where it is left out, and the properties, which may be left out too
unfoldable pub reason_at : Section → List ℕ → Result (ℕ × Properties) StreamFault
reason_at section [] = Ok (0, nothing)
reason_at section (code ∷ []) = Ok (code, nothing)
reason_at section (code ∷ byte ∷ rest) = last_properties_at section (byte ∷ rest) >>= λ all. Ok (code, all)

-- 3.4 PUBACK
unfoldable pub puback_at : List ℕ → Result Puback StreamFault
puback_at body = do
  identifier ← identifier_at body
  reason ← reason_at sections.Puback identifier.1
  Ok (record { packet_identifier = identifier.0; reason_code = reason.0; properties = puback_of reason.1 })

-- 3.14 DISCONNECT
unfoldable pub disconnect_at : List ℕ → Result Disconnect StreamFault
disconnect_at body = reason_at sections.Disconnect body >>= λ reason. Ok (record { reason_code = reason.0; properties = disconnect_of reason.1 })

-- 3.8.3.1 Retain Handling as two bits: 3 is none
abbrev pub retain_handling_at : ℕ → Option RetainHandling
retain_handling_at bits =
    if bits == 0 then Some Send else (if bits == 1 then Some SendIfNew else (if bits == 2 then Some DoNotSend else None))

-- the options of two enumerations, where both are lawful
abbrev pub options_from : ℕ → Option QoS → Option RetainHandling → Result SubscriptionOptions StreamFault
options_from byte None handling = Err Protocol
options_from byte (Some qos) None = Err Protocol
options_from byte (Some qos) (Some handling) =
    Ok (record { maximum_qos = qos; no_local = byte / 4 % 2 == 1; retain_as_published = byte / 8 % 2 == 1; retain_handling = handling })

-- 3.8.3.1 Subscription Options: the two highest bits are reserved, and a QoS or Retain Handling of 3 is a protocol error
unfoldable pub options_at : ℕ → Result SubscriptionOptions StreamFault
options_at byte =
    if nat_lt byte 64 then options_from byte (qos_at (byte % 4)) (retain_handling_at (byte / 16 % 4)) else Err Malformed

-- 3.8.3: a Topic Filter and its options
unfoldable pub subscription_at : List ℕ → Field Subscription
subscription_at bytes = do
  filter ← text_at bytes
  byte ← byte_at filter.1
  options ← options_at byte.0
  Ok (record { filter = filter.0; options = options }, byte.1)

-- entries up to the end of the bytes; the number is at least that of the bytes, and bounds the recursion
unfoldable pub entries_within : {A : Type 0} → (List ℕ → Field A) → ℕ → List ℕ → Result (List A) StreamFault
entries_within entry most [] = Ok []
entries_within entry zero (byte ∷ bytes) = Err Malformed
entries_within entry (suc most) (byte ∷ bytes) = do
  first ← entry (byte ∷ bytes)
  others ← entries_within entry most first.1
  Ok (first.0 ∷ others)

-- 3.8.3 and 3.10.3: a packet without an entry is a protocol error
abbrev pub at_least_one : {A : Type 0} → List A → Result (List A) StreamFault
at_least_one [] = Err Protocol
at_least_one (first ∷ others) = Ok (first ∷ others)

-- the entries of a SUBSCRIBE or an UNSUBSCRIBE: there are no more of them than bytes
unfoldable pub entries_at : {A : Type 0} → (List ℕ → Field A) → List ℕ → Result (List A) StreamFault
entries_at entry bytes = entries_within entry (length bytes) bytes >>= at_least_one

-- 3.8 SUBSCRIBE
unfoldable pub subscribe_at : List ℕ → Result Subscribe StreamFault
subscribe_at body = do
  identifier ← identifier_at body
  all ← properties_at sections.Subscribe identifier.1
  entries ← entries_at subscription_at all.1
  Ok (record { packet_identifier = identifier.0; properties = subscribe_of all.0; subscriptions = entries })

-- 3.10 UNSUBSCRIBE
unfoldable pub unsubscribe_at : List ℕ → Result Unsubscribe StreamFault
unsubscribe_at body = do
  identifier ← identifier_at body
  all ← properties_at sections.Unsubscribe identifier.1
  entries ← entries_at text_at all.1
  Ok (record { packet_identifier = identifier.0; properties = unsubscribe_of all.0; filters = entries })

-- the body of a packet of that kind
unfoldable pub body_at : Kind → List ℕ → Result Packet StreamFault
body_at kinds.Connect body = connect_at body
body_at (kinds.Publish flags) body = publish_body_at flags body >>= λ p. Ok (packets.Publish p)
body_at kinds.Puback body = puback_at body >>= λ p. Ok (packets.Puback p)
body_at kinds.Subscribe body = subscribe_at body >>= λ p. Ok (packets.Subscribe p)
body_at kinds.Unsubscribe body = unsubscribe_at body >>= λ p. Ok (packets.Unsubscribe p)
body_at kinds.Pingreq body = at_end packets.Pingreq body
body_at kinds.Disconnect body = disconnect_at body >>= λ p. Ok (packets.Disconnect p)
body_at (kinds.Foreign kind) body = Ok (packets.Foreign kind)
