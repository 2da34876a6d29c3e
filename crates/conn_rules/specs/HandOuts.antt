-- Which messages a client is not sent (sections 3.1.2.11.4 and 3.3.2.3.3).
use Rattle.std.specs.Prelude.{ℕ, nat_lt, ◌||◌, Bool, false, Option, Some, None}
use Rattle.mqtt_packet.specs.declared.packet.Packet.{Packet}
use Rattle.mqtt_wire.specs.Writing.{written_size}
use Rattle.group_jobs.specs.declared.message.Message.{Message}
use Rattle.conn_rules.specs.declared.hand_outs.HandOutTerms.{HandOutTerms}
use Rattle.conn_rules.specs.Expiring.{is_expired}
use Rattle.conn_rules.specs.Packets.{job}

-- a packet is longer than the Maximum Packet Size of its client, which may have named none
abbrev pub is_too_long : Option ℕ → Packet → Bool
is_too_long None packet = false
is_too_long (Some maximum) packet = nat_lt maximum (written_size packet)

-- so is the PUBLISH that hands a message on under this Subscription Identifier, if any: whatever its Packet Identifier, of two bytes, what is left of its
-- interval, of four, and its DUP
abbrev pub is_message_too_long : Option ℕ → Option ℕ → Message → Bool
is_message_too_long maximum subscription message = is_too_long maximum (job 0 false message subscription 1)

-- a message that a client is handed is discarded where it has expired then, or its PUBLISH is longer than the client takes
abbrev pub is_discarded : HandOutTerms → Message → Bool
is_discarded terms message = is_expired terms.at message.expiry || is_message_too_long terms.maximum_packet_size terms.subscription message
