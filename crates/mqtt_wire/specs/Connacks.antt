-- The written form of a CONNACK: what the server offers, or why it refuses (section 3.2).
use Rattle.std.specs.Prelude.{ℕ, Bool, true, false, List, [], ◌∷◌, ◌++◌}
use Rattle.mqtt_packet.specs.declared.packet.QoS.{QoS}
use Rattle.mqtt_packet.specs.declared.packet.QoS.TheVariants.{AtMostOnce, AtLeastOnce, ExactlyOnce}
use Rattle.mqtt_packet.specs.declared.packet.Connack.{Connack}
use Rattle.mqtt_packet.specs.declared.packet.Connack.TheVariants.{Accepted, Refused}
use Rattle.mqtt_packet.specs.declared.packet.Acceptance.{Acceptance}
use Rattle.mqtt_packet.specs.declared.packet.ConnectRefusal.{ConnectRefusal}
use Rattle.mqtt_packet.specs.declared.packet.ConnectRefusal.TheVariants as refusals
use Rattle.mqtt_packet.specs.declared.offer.Offer.{Offer}
use Rattle.mqtt_fields.specs.Forms.{u16_bytes, u32_bytes, utf8_string, bit}
use Rattle.mqtt_fields.specs.Sections.{properties}
use Rattle.mqtt_fields.specs.PropertyLists.{bytes_if}

-- 3.2.2.3.2: after how many seconds the session expires
abbrev pub expiry : ℕ → List ℕ
expiry seconds = 0x11 ∷ u32_bytes seconds

-- 3.2.2.3.7: the identifier that was assigned
abbrev pub assigned : List ℕ → List ℕ
assigned identifier = 0x12 ∷ utf8_string identifier

-- 3.2.2.3.14: the Keep Alive that the client has to use, in seconds
abbrev pub keep_alive : ℕ → List ℕ
keep_alive seconds = 0x13 ∷ u16_bytes seconds

-- 3.2.2.3.4 Maximum QoS: left out where it is 2
abbrev pub maximum_qos_bytes : QoS → List ℕ
maximum_qos_bytes AtMostOnce = 0x24 ∷ 0 ∷ []
maximum_qos_bytes AtLeastOnce = 0x24 ∷ 1 ∷ []
maximum_qos_bytes ExactlyOnce = []

-- what is not available is said, by that property
abbrev pub unless_available : ℕ → Bool → List ℕ
unless_available identifier true = []
unless_available identifier false = identifier ∷ 0 ∷ []

-- 3.2.2.3.4 to 3.2.2.3.12: what the server offers, and nothing of what a client takes to be offered anyway
abbrev pub offer_bytes : Offer → List ℕ
offer_bytes o =
    maximum_qos_bytes o.maximum_qos
    ++ (unless_available 0x25 o.retain_available
    ++ (bytes_if (λ size. 0x27 ∷ u32_bytes size) o.maximum_packet_size
    ++ unless_available 0x29 o.subscription_identifiers_available))

-- 3.2.2.3: the expiry interval and the keep alive, where they are not what the client asked for, an identifier that was assigned, and
-- what the server offers
abbrev pub connack_properties : Acceptance → List ℕ
connack_properties a =
    bytes_if expiry a.session_expiry_interval
    ++ (bytes_if assigned a.assigned_client_identifier
    ++ (bytes_if keep_alive a.server_keep_alive
    ++ offer_bytes a.offer))

-- 3.2.2.2: the Reason Code of a refusal
abbrev pub refusal_code : ConnectRefusal → ℕ
refusal_code refusals.ProtocolError = 0x82
refusal_code refusals.ImplementationSpecificError = 0x83
refusal_code refusals.UnsupportedProtocolVersion = 0x84
refusal_code refusals.ClientIdentifierNotValid = 0x85
refusal_code refusals.BadUserNameOrPassword = 0x86
refusal_code refusals.ServerBusy = 0x89
refusal_code refusals.BadAuthenticationMethod = 0x8C

-- 3.2: Session Present, the Reason Code and the properties
abbrev pub connack_body : Connack → List ℕ
connack_body (Accepted a) = bit a.session_present ∷ 0 ∷ properties (connack_properties a)
connack_body (Refused refusal) = 0 ∷ refusal_code refusal ∷ properties []
