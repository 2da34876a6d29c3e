-- The reply to a PUBLISH (sections 3.3 and 3.4).
use Rattle.std.specs.Prelude.{ℕ, ◌+◌, ◌||◌, nat_le, Bool, if◌then◌else◌, List, [], ◌∷◌, length, Option, Some}
use Rattle.mqtt_packet.specs.declared.packet.Packet.{Packet}
use Rattle.mqtt_packet.specs.declared.packet.Publish.{Publish}
use Rattle.mqtt_topic.specs.Routes.{routed, places_of}
use Rattle.group_jobs.specs.declared.message.Message.{Message}
use Rattle.local_group.specs.Groups.{life}
use Rattle.conn_rules.specs.declared.publishing.PublishAnswer.{PublishAnswer}
use Rattle.conn_rules.specs.declared.publishing.PublishAnswer.TheVariants as answers
use Rattle.conn_rules.specs.Packets.{disconnect, puback}
use Rattle.conn_rules.specs.Publishing.{publish_answer, puback_code, message_of}
use Rattle.solo_output.specs.Groups.{SoloState, shares_of, accepted_in, waiting_in, with_message, with_phase}
use Rattle.solo_output.specs.Groups.Phase.{Closed}

-- the packet that answers, if one does, and the model after it
pub record Reply : Type 0 where
  pub packet : Option Packet
  pub solo : SoloState

-- this is answered, and the connection goes on
abbrev pub answering : Packet → SoloState → Reply
answering packet solo = record { packet = Some packet; solo = solo }

-- this is answered, if anything, and the connection is closed (4.13)
abbrev pub closing : Option Packet → SoloState → Reply
closing packet solo = record { packet = packet; solo = with_phase Closed solo }

-- the group of this slot accepts no further message: its publisher's numbers are used up, or its queue is full (profile)
abbrev pub is_full : ℕ → SoloState → Bool
is_full slot solo = nat_le life (length (accepted_in slot solo.groups)) || nat_le solo.capacity (length (waiting_in slot solo))

-- the slots of the groups whose filters match, in order (4.7)
abbrev pub matching : List ℕ → SoloState → List ℕ
matching topic solo = places_of 0 (routed topic (shares_of solo.groups))

-- how many groups took a message, and the model after that
pub record Offered : Type 0 where
  pub taken : ℕ
  pub solo : SoloState

abbrev pub taken_too : Offered → Offered
taken_too offered = record offered { taken = 1 + offered.taken }

-- each of these groups takes the message that is not full
abbrev pub offer_to : List ℕ → Message → SoloState → Offered
offer_to [] message solo = record { taken = 0; solo = solo }
offer_to (slot ∷ slots) message solo =
    if is_full slot solo then offer_to slots message solo else taken_too (offer_to slots message (with_message slot message solo))

-- 3.4.2.1: its message came at the moment 0, and the PUBACK says how many groups matched and how many of them took the message
abbrev pub offer_reply : ℕ → Publish → SoloState → Reply
offer_reply identifier publish solo =
    answering (puback identifier (puback_code (length (matching publish.topic solo)) (offer_to (matching publish.topic solo) (message_of 0 publish) solo).taken))
    (offer_to (matching publish.topic solo) (message_of 0 publish) solo).solo

abbrev pub publish_reply_as : PublishAnswer → Publish → SoloState → Reply
publish_reply_as (answers.Close code) publish solo = closing (Some (disconnect code)) solo
publish_reply_as (answers.Offer identifier) publish solo = offer_reply identifier publish solo

abbrev pub publish_reply : Publish → SoloState → Reply
publish_reply publish solo = publish_reply_as (publish_answer publish) publish solo
