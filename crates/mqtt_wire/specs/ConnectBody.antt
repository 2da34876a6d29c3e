-- The body of a CONNECT, read field by field: the packet, or the first fault (section 3.1).
use Rattle.std.specs.Prelude.{ℕ, ◌/◌, ◌%◌, ◌==◌, if◌then◌else◌, Bool, List, Result, Ok, Err}
use Rattle.mqtt_fields.specs.declared.fault.StreamFault.{StreamFault}
use Rattle.mqtt_fields.specs.declared.fault.StreamFault.TheVariants.{Malformed}
use Rattle.mqtt_packet.specs.declared.packet.Connect.{Connect}
use Rattle.mqtt_wire.specs.declared.bodies.ConnectPayload.{ConnectPayload}
use Rattle.mqtt_packet.specs.declared.packet.Packet.{Packet}
use Rattle.mqtt_packet.specs.declared.packet.Packet.TheVariants as packets
use Rattle.mqtt_fields.specs.declared.property.Section.TheVariants as sections
use Rattle.mqtt_fields.specs.Faults.{◌>>=◌}
use Rattle.mqtt_wire.specs.Protocol.{is_mqtt_5, are_connect_flags, has_will}
use Rattle.mqtt_fields.specs.Fields.{byte_at, u16_at, binary_at, text_at, field_if, at_end}
use Rattle.mqtt_fields.specs.Sections.{properties_at}
use Rattle.mqtt_fields.specs.PropertyLists.{connect_of}

-- a value that must be so, or the packet is malformed
abbrev pub expect : Bool → Result (Unit {0}) StreamFault
expect holds = if holds then Ok tt else Err Malformed

-- 3.1.3: Client Identifier, User Name and Password, and nothing after them
unfoldable pub connect_payload_at : ℕ → List ℕ → Result ConnectPayload StreamFault
connect_payload_at flags bytes = do
  client_identifier ← text_at bytes
  user_name ← field_if (flags / 128 % 2 == 1) text_at client_identifier.1
  password ← field_if (flags / 64 % 2 == 1) binary_at user_name.1
  at_end (record { client_identifier = client_identifier.0; user_name = user_name.0; password = password.0 }) password.1

-- 3.1.2.10 to 3.1.3: what stands behind flags without a will
unfoldable pub connect_fields_at : ℕ → List ℕ → Result Connect StreamFault
connect_fields_at flags bytes = do
  keep_alive ← u16_at bytes
  all ← properties_at sections.Connect keep_alive.1
  properties ← connect_of all.0
  payload ← connect_payload_at flags all.1
  Ok (record {
    clean_start = flags / 2 % 2 == 1;
    keep_alive = keep_alive.0;
    properties = properties;
    client_identifier = payload.client_identifier;
    user_name = payload.user_name;
    password = payload.password;
  })

-- what stands behind the version 5: after a will flag nothing is looked at (profile)
unfoldable pub connect_5_at : List ℕ → Result Packet StreamFault
connect_5_at bytes = do
  flags ← byte_at bytes
  lawful ← expect (are_connect_flags flags.0)
  if has_will flags.0 then Ok packets.WithWill else (connect_fields_at flags.0 flags.1 >>= λ p. Ok (packets.Connect p))

-- 3.1 CONNECT: after another name or version nothing is looked at (profile)
unfoldable pub connect_at : List ℕ → Result Packet StreamFault
connect_at body = do
  name ← text_at body
  version ← byte_at name.1
  if is_mqtt_5 name.0 version.0 then connect_5_at version.1 else Ok (packets.OtherVersion version.0)
