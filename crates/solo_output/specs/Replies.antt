-- The reply to each packet and to the end of the stream (chapters 3 and 4), and what a packet brings about in all.
use Rattle.std.specs.Prelude.{ℕ, false, if◌then◌else◌, List, [], ◌∷◌, ◌++◌, codes, Option, Some, None}
use Rattle.std.specs.Option.{option_to_list}
use Rattle.mqtt_fields.specs.declared.fault.StreamFault.{StreamFault}
use Rattle.mqtt_packet.specs.declared.packet.Connect.{Connect}
use Rattle.mqtt_packet.specs.declared.packet.ConnectRefusal.{ConnectRefusal}
use Rattle.mqtt_packet.specs.declared.packet.Packet.{Packet}
use Rattle.mqtt_packet.specs.declared.packet.Packet.TheVariants as packets
use Rattle.conn_rules.specs.declared.connecting.FirstAnswer.{FirstAnswer}
use Rattle.conn_rules.specs.declared.connecting.FirstAnswer.TheVariants as first
use Rattle.conn_rules.specs.Connecting.{first_answer, inflight_alone, no_overrides, terms_of, is_given_expiry, granted_expiry}
use Rattle.conn_rules.specs.Faults.{fault_code, fault_refusal}
use Rattle.conn_rules.specs.Packets.{accepting, refusing, disconnect}
use Rattle.solo_output.specs.Groups.{SoloState, Phase, with_puback}
use Rattle.solo_output.specs.Groups.Phase.{Unconnected, Connected, Closed}
use Rattle.solo_output.specs.HandOuts.{SoloStep, sends_nothing, sent_before, deliver}
use Rattle.solo_output.specs.Publishing.{Reply, answering, closing, publish_reply}
use Rattle.solo_output.specs.Subscribing.{subscribe_reply, unsubscribe_reply}

-- 3.1.3.1: a client without an identifier is given the first of those that are assigned
abbrev pub assigned_to : List ℕ → Option (List ℕ)
assigned_to [] = Some (codes "auto-00000001")
assigned_to (byte ∷ bytes) = None

-- 3.2: a new session begins, as the CONNECT asks
abbrev pub begin : Connect → SoloState → Reply
begin connect solo =
    answering (accepting false (assigned_to connect.client_identifier) no_overrides) (record solo { phase = Connected; terms = terms_of (inflight_alone solo.max_inflight) connect })

-- what attaches is a CONNECT
abbrev pub attach_reply : Packet → SoloState → Reply
attach_reply (packets.Connect connect) solo = begin connect solo
attach_reply _ solo = closing None solo

-- the first packet: the connection begins, or is refused, or is closed with no answer
abbrev pub first_reply_as : FirstAnswer → Packet → SoloState → Reply
first_reply_as first.Close packet solo = closing None solo
first_reply_as (first.Refuse refusal) packet solo = closing (Some (refusing refusal)) solo
first_reply_as first.Attach packet solo = attach_reply packet solo

abbrev pub first_reply : Packet → SoloState → Reply
first_reply packet solo = first_reply_as (first_answer None packet) packet solo

-- the session has this expiry from now on
abbrev pub with_expiry : ℕ → SoloState → SoloState
with_expiry expiry solo = record solo { terms = record solo.terms { session_expiry_interval = expiry } }

-- 3.14.2.2.2: an expiry at the end takes the place of the session's, within what its terms allow, which is any here; but a session that ends with its connection may not be given one
abbrev pub disconnect_reply : Option ℕ → SoloState → Reply
disconnect_reply None solo = closing None solo
disconnect_reply (Some expiry) solo =
    if is_given_expiry expiry solo.terms then closing (Some (disconnect 0x82)) solo else closing None (with_expiry (granted_expiry solo.terms expiry) solo)

-- the packets that a client sends which has its session; one that it has no business to send, a second CONNECT among it, closes the
-- connection with 82 (3.1, 4.13)
abbrev pub later_reply : Packet → SoloState → Reply
later_reply (packets.Publish publish) solo = publish_reply publish solo
later_reply (packets.Puback puback) solo = record { packet = None; solo = with_puback puback.packet_identifier puback.reason_code solo }
later_reply (packets.Subscribe subscribe) solo = subscribe_reply subscribe solo
later_reply (packets.Unsubscribe unsubscribe) solo = unsubscribe_reply unsubscribe solo
later_reply packets.Pingreq solo = answering packets.Pingresp solo
later_reply (packets.Disconnect disconnect) solo = disconnect_reply disconnect.properties.session_expiry_interval solo
later_reply _ solo = closing (Some (disconnect 0x82)) solo

-- after the end of the connection nothing is looked at
abbrev pub reply_in : Phase → Packet → SoloState → Reply
reply_in Unconnected packet solo = first_reply packet solo
reply_in Connected packet solo = later_reply packet solo
reply_in Closed packet solo = record { packet = None; solo = solo }

abbrev pub reply : Packet → SoloState → Reply
reply packet solo = reply_in solo.phase packet solo

-- what a packet brings about: the reply, and what goes out after it
abbrev pub behind_reply : Reply → SoloStep
behind_reply answered = record { sent = option_to_list answered.packet ++ (deliver answered.solo).sent; solo = (deliver answered.solo).solo }

abbrev pub solo_step : Packet → SoloState → SoloStep
solo_step packet solo = behind_reply (reply packet solo)

-- what packets bring about, one after another
abbrev pub solo_steps : List Packet → SoloState → SoloStep
solo_steps [] solo = sends_nothing solo
solo_steps (packet ∷ packets) solo = sent_before (solo_step packet solo).sent (solo_steps packets (solo_step packet solo).solo)

-- 4.13.1: a client that is not connected is refused by a CONNACK, or by nothing
abbrev pub refused_by : Option ConnectRefusal → Option Packet
refused_by None = None
refused_by (Some refusal) = Some (refusing refusal)

-- 4.13: a fault closes the connection, and the end of the stream does so with no answer
abbrev pub farewell_in : Phase → Option StreamFault → Option Packet
farewell_in Unconnected (Some fault) = refused_by (fault_refusal fault)
farewell_in Connected (Some fault) = Some (disconnect (fault_code fault))
farewell_in phase None = None
farewell_in Closed (Some fault) = None

abbrev pub farewell : Option StreamFault → SoloState → Option Packet
farewell fault solo = farewell_in solo.phase fault
