-- The packets that the broker sends (chapter 3).
use Rattle.std.specs.Prelude.{ℕ, Bool, false, List, [], Option, None}
use Rattle.mqtt_packet.specs.declared.packet.ConnectRefusal.{ConnectRefusal}
use Rattle.mqtt_packet.specs.declared.packet.Connack.TheVariants.{Accepted, Refused}
use Rattle.mqtt_packet.specs.declared.packet.Delivery.TheVariants.{AtLeastOnce}
use Rattle.mqtt_packet.specs.declared.packet.Packet.{Packet}
use Rattle.mqtt_packet.specs.declared.packet.Packet.TheVariants as packets
use Rattle.group_jobs.specs.declared.message.Message.{Message}
use Rattle.conn_rules.specs.declared.terms.Overrides.{Overrides}
use Rattle.conn_rules.specs.Connecting.{offer}
use Rattle.conn_rules.specs.Expiring.{interval_left}

-- 3.2: the CONNACK that opens a connection, with the identifier that was assigned to a client without one, and with what is not as the
-- client asked
abbrev pub accepting : Bool → Option (List ℕ) → Overrides → Packet
accepting present assigned overrides = packets.Connack (Accepted (record {
  session_present = present;
  session_expiry_interval = overrides.session_expiry_interval;
  assigned_client_identifier = assigned;
  server_keep_alive = overrides.keep_alive;
  offer = offer;
}))

-- 3.2.2.2: a CONNACK that refuses
abbrev pub refusing : ConnectRefusal → Packet
refusing refusal = packets.Connack (Refused refusal)

-- 3.3: a message as it goes out: QoS 1, RETAIN 0, and DUP 1 where it was sent before, with the Subscription Identifier under which it
-- is sent (3.3.2.3.8), and with what is left of its Message Expiry Interval at that moment (3.3.2.3.3)
abbrev pub job : ℕ → Bool → Message → Option ℕ → ℕ → Packet
job now dup message subscription identifier = packets.Publish (record {
  dup = dup;
  retain = false;
  delivery = AtLeastOnce identifier;
  message_expiry_interval = interval_left now message.expiry;
  subscription_identifier = subscription;
  topic = message.topic;
  properties = message.properties;
  payload = message.payload;
})

-- 3.4: a PUBACK with that Reason Code
abbrev pub puback : ℕ → ℕ → Packet
puback identifier code = packets.Puback (record { packet_identifier = identifier; reason_code = code; properties = record { reason_string = None; user_properties = [] } })

-- 3.9 and 3.11: a code for each entry
abbrev pub suback : ℕ → List ℕ → Packet
suback identifier codes = packets.Suback (record { packet_identifier = identifier; reason_codes = codes })

abbrev pub unsuback : ℕ → List ℕ → Packet
unsuback identifier codes = packets.Unsuback (record { packet_identifier = identifier; reason_codes = codes })

-- 3.14: a DISCONNECT with that Reason Code
abbrev pub disconnect : ℕ → Packet
disconnect code = packets.Disconnect (record { reason_code = code; properties = record { session_expiry_interval = None; reason_string = None; user_properties = [] } })
