-- How long the packets are that the broker sends (sections 2.1.4, 3.1.2.11.4, 3.2.2.3.7 and 3.3).
use Rattle.std.specs.Prelude.{◌≡◌, ◌⊎◌, ℕ, ◌≤◌, Bool, List, length, Option, Some}
use Rattle.mqtt_packet.specs.declared.packet.Packet.{Packet}
use Rattle.mqtt_packet.specs.Texts.{IsText}
use Rattle.mqtt_wire.specs.Writing.{written}
use Rattle.group_jobs.specs.declared.message.Message.{Message}
use Rattle.conn_rules.specs.declared.terms.Overrides.{Overrides}
use Rattle.conn_rules.specs.Packets.{accepting, job}

-- a client that does not take packets of 64 bytes is refused (3.1.2.11.4, profile)
abbrev pub bytes_for_all : ℕ
bytes_for_all = 64

-- it has at most so many bytes in all, and each client takes it that is not refused
abbrev pub IsSmall : Packet → Type 0
IsSmall packet = length (written packet) ≤ bytes_for_all

-- the most bytes that a packet of the broker has in all: a CONNACK has so many that assigns the longest text as a Client Identifier, and says
-- that neither the expiry nor the keep alive is as the client asked
abbrev pub most_bytes : ℕ
most_bytes = 65564

abbrev pub IsShort : Packet → Type 0
IsShort packet = length (written packet) ≤ most_bytes

-- the most bytes of a PUBLISH that hands a message on: those of the longest that is read, and of a Subscription Identifier (3.3.2.3.8)
abbrev pub most_publish_bytes : ℕ
most_publish_bytes = 65542

-- a message that is short in each PUBLISH in which it is handed on, whenever that is and under whatever Subscription Identifier
abbrev pub IsLight : Message → Type 0
IsLight message = (now : ℕ) (dup : Bool) (subscription : Option ℕ) (identifier : ℕ) → IsShort (job now dup message subscription identifier)

-- a CONNACK that tells a client the identifier that it was given (3.2.2.3.7)
pub record Assigns (packet : Packet) : Type 0 where
  pub present : Bool
  pub name : List ℕ
  pub overrides : Overrides
  pub text : IsText name
  pub is : packet ≡ accepting present (Some name) overrides

-- a PUBLISH that hands a message on (3.3)
pub record HandsOn (packet : Packet) : Type 0 where
  pub now : ℕ
  pub dup : Bool
  pub message : Message
  pub subscription : Option ℕ
  pub identifier : ℕ
  pub is : packet ≡ job now dup message subscription identifier

-- what answers an input: small, or it assigns an identifier
abbrev pub IsAnswer : Packet → Type 0
IsAnswer packet = IsSmall packet ⊎ Assigns packet

-- what a step sends: an answer, or a message that is handed on
abbrev pub IsAnswerUnlessHandedOn : Packet → Type 0
IsAnswerUnlessHandedOn packet = IsAnswer packet ⊎ HandsOn packet

-- short, or as long as the message makes it that it hands on
abbrev pub IsShortUnlessHandedOn : Packet → Type 0
IsShortUnlessHandedOn packet = IsShort packet ⊎ HandsOn packet
