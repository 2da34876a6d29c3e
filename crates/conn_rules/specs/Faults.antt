-- What a fault of its stream makes of a connection (section 4.13).
use Rattle.std.specs.Prelude.{ℕ, Option, Some, None}
use Rattle.mqtt_packet.specs.declared.packet.ConnectRefusal.{ConnectRefusal}
use Rattle.mqtt_packet.specs.declared.packet.ConnectRefusal.TheVariants.{ProtocolError}
use Rattle.mqtt_fields.specs.declared.fault.StreamFault.{StreamFault}
use Rattle.mqtt_fields.specs.declared.fault.StreamFault.TheVariants.{Malformed, Protocol, TooLarge}

-- 4.13: the Reason Code of a fault of the stream
abbrev pub fault_code : StreamFault → ℕ
fault_code Malformed = 0x81
fault_code Protocol = 0x82
fault_code TooLarge = 0x95

-- 4.13.1: a client that is not connected hears of a protocol error alone (profile)
abbrev pub fault_refusal : StreamFault → Option ConnectRefusal
fault_refusal Malformed = None
fault_refusal Protocol = Some ProtocolError
fault_refusal TooLarge = None
