-- How a client comes into a group, and out of it (sections 3.8 to 3.11).
use Rattle.std.specs.Prelude.{◌≡◌, ℕ, List, map, slice_get, Option, Some, None, Ok}
use Rattle.mqtt_packet.specs.declared.packet.Packet.{Packet}
use Rattle.mqtt_packet.specs.declared.packet.Packet.TheVariants as kinds
use Rattle.mqtt_packet.specs.declared.packet.Subscribe.{Subscribe}
use Rattle.mqtt_packet.specs.declared.packet.Subscription.{Subscription}
use Rattle.mqtt_packet.specs.declared.packet.Unsubscribe.{Unsubscribe}
use Rattle.mqtt_topic.specs.Names.{Share, share_of}
use Rattle.mqtt_topic.specs.Routes.{slot_of}
use Rattle.conn_rules.specs.declared.subscribing.EntryAnswer.TheVariants.{Join}
use Rattle.conn_rules.specs.Packets.{suback, unsuback}
use Rattle.conn_rules.specs.Subscribing.{entry_answer, subscribe_refusal, unsubscribe_refusal}
use Rattle.solo_output.specs.Groups.{SoloState, shares_of}
use Rattle.solo_output.specs.Groups.Phase.{Connected}
use Rattle.solo_output.specs.Publishing.{Reply}

-- 3.9.3, 3.11.3: of these Topic Filters, whose Reason Codes stand in their order, the text of the share that is bound to this slot has this code
pub record HasCode (filters : List (List ℕ)) (codes : List ℕ) (code slot : ℕ) (shares : List Share) : Type 0 where
  pub place : ℕ
  pub filter : List ℕ
  pub asked : slice_get filters place ≡ Some filter
  pub coded : slice_get codes place ≡ Some code
  pub its : slot_of filter shares ≡ Some slot

-- 3.8.3, 3.9.3: this is a SUBSCRIBE, and the SUBACK that replies has Granted QoS 1, 01, for that share
abbrev pub Joins : Packet → Reply → ℕ → Type 0
Joins (kinds.Subscribe subscribe) reply slot =
    (codes : List ℕ) × (reply.packet ≡ Some (suback subscribe.packet_identifier codes))
    × HasCode (map (λ entry. entry.filter) subscribe.subscriptions) codes 1 slot (shares_of reply.solo.groups)
Joins _ reply slot = ⊥

-- 3.10.3, 3.11.3: this is an UNSUBSCRIBE, and the UNSUBACK that replies has Success, 00, for that share
abbrev pub Leaves : Packet → Reply → ℕ → Type 0
Leaves (kinds.Unsubscribe unsubscribe) reply slot =
    (codes : List ℕ) × (reply.packet ≡ Some (unsuback unsubscribe.packet_identifier codes))
    × HasCode unsubscribe.filters codes 0 slot (shares_of reply.solo.groups)
Leaves _ reply slot = ⊥

-- 3.8.2.1.2: the Subscription Identifier of a SUBSCRIBE, if it has one
abbrev pub subscription_in : Packet → Option ℕ
subscription_in (kinds.Subscribe subscribe) = subscribe.properties.subscription_identifier
subscription_in _ = None

-- 3.8.3: a client that is connected sends this SUBSCRIBE, which does not close the connection; it has an entry of this share that is served
pub record AsksFor (subscribe : Subscribe) (share : Share) (solo : SoloState) : Type 0 where
  pub connected : solo.phase ≡ Connected
  pub goes_on : subscribe_refusal subscribe ≡ None
  pub place : ℕ
  pub entry : Subscription
  pub asked : slice_get subscribe.subscriptions place ≡ Some entry
  pub served : entry_answer entry ≡ Join share

-- 3.10.3: a client that is connected sends this UNSUBSCRIBE, which does not close the connection; it has the text of the share of this slot
pub record AsksToLeave (unsubscribe : Unsubscribe) (slot : ℕ) (solo : SoloState) : Type 0 where
  pub connected : solo.phase ≡ Connected
  pub goes_on : unsubscribe_refusal unsubscribe ≡ None
  pub place : ℕ
  pub share : Share
  pub asked : slice_get unsubscribe.filters place ≡ Some share.text
  pub spelled : share_of share.text ≡ Ok share
  pub its : slot_of share.text (shares_of solo.groups) ≡ Some slot
