-- Replies: what a connection answers to an input, before anything is handed out.
use Rattle.std.specs.Prelude.{ℕ, Option, Some}
use Rattle.mqtt_packet.specs.declared.packet.Packet.{Packet}
use Rattle.conn_rules.specs.Packets.{disconnect, puback}
use Rattle.conn_supply.specs.declared.reply.Then.TheVariants.{Go, Close, Kicked}
use Rattle.conn_supply.specs.declared.reply.Reply.{Reply}

-- this packet is sent, if there is one, and the connection goes on
abbrev pub going_on : Option Packet → Reply
going_on packet = record { packet = packet; next = Go }

-- this packet is sent, if there is one, and the connection is closed
abbrev pub closed : Option Packet → Reply
closed packet = record { packet = packet; next = Close }

-- this packet is sent, and the connection is closed: another one has its session
abbrev pub taken_over : Packet → Reply
taken_over packet = record { packet = Some packet; next = Kicked }

-- a DISCONNECT of this Reason Code, and the connection is closed (4.13)
abbrev pub closing_with : ℕ → Reply
closing_with code = closed (Some (disconnect code))

-- a PUBACK of this Reason Code (3.4)
abbrev pub acknowledging : ℕ → ℕ → Reply
acknowledging identifier code = going_on (Some (puback identifier code))
