-- The moves of which the steps of a model are made: what holds of each, and of two one after the other, holds of every step.
use Rattle.std.proofs.Common.{◌≡◌, ℕ, ◌<◌, nat_lt, true, false, List, [], ◌∷◌, length, Option, Some, None, Result, Ok, Err, refl, sym, ap, subst, arith, eqb-true, ltb-true}
use Rattle.std.specs.List.{AllByRecursion}
use Rattle.std.proofs.lemmas.Bool.{cond_both}
use Rattle.std.proofs.lemmas.List.{length_push}
use Rattle.mqtt_packet.specs.declared.packet.Connect.{Connect}
use Rattle.mqtt_packet.specs.declared.packet.Packet.{Packet}
use Rattle.mqtt_packet.specs.declared.packet.Packet.TheVariants as packets
use Rattle.mqtt_packet.specs.declared.packet.Publish.{Publish}
use Rattle.mqtt_packet.specs.declared.packet.Subscribe.{Subscribe}
use Rattle.mqtt_packet.specs.declared.packet.Subscription.{Subscription}
use Rattle.mqtt_packet.specs.declared.packet.Unsubscribe.{Unsubscribe}
use Rattle.mqtt_topic.specs.declared.error.TopicError.{TopicError}
use Rattle.mqtt_topic.specs.Names.{Share, share_of}
use Rattle.mqtt_topic.specs.Routes.{most_routes, slot_of}
use Rattle.group_jobs.specs.declared.message.Message.{Message}
use Rattle.session_desk.specs.declared.session.Membership.{Membership}
use Rattle.session_desk.specs.declared.session.Membership.TheVariants.{NotMember, Member, Leaving}
use Rattle.conn_rules.specs.declared.connecting.FirstAnswer.{FirstAnswer}
use Rattle.conn_rules.specs.declared.connecting.FirstAnswer.TheVariants as first
use Rattle.conn_rules.specs.declared.publishing.PublishAnswer.{PublishAnswer}
use Rattle.conn_rules.specs.declared.publishing.PublishAnswer.TheVariants as publishing
use Rattle.conn_rules.specs.declared.subscribing.EntryAnswer.{EntryAnswer}
use Rattle.conn_rules.specs.declared.subscribing.EntryAnswer.TheVariants as entries
use Rattle.conn_rules.specs.Connecting.{first_answer, inflight_alone, terms_of, is_given_expiry, granted_expiry}
use Rattle.conn_rules.specs.Packets.{disconnect as disconnecting}
use Rattle.conn_rules.specs.Publishing.{publish_answer, message_of}
use Rattle.conn_rules.specs.Subscribing.{entry_answer, subscribe_refusal, unsubscribe_refusal}
use Rattle.conn_supply.specs.Subscribing.{subscription_after}
use Rattle.solo_output.specs.Groups.{SoloState, Phase, bound, shares_of, waiting_in, unacknowledged, with_phase, with_membership, with_subscription, with_message, with_share, with_puback, with_hand_out}
use Rattle.solo_output.specs.Groups.Phase.{Unconnected, Connected, Closed}
use Rattle.solo_output.specs.HandOuts.{quota, has_room, next_hand_out, next_packets, sent_before, sends_nothing, hand_out, left_with, deliver_to, deliver_in, deliver}
use Rattle.solo_output.specs.Publishing.{closing, is_full, matching, offer_to, taken_too, publish_reply_as}
use Rattle.solo_output.specs.Subscribing.{coded, enter, is_slot, stay, join_as, entry_reply, join_all, leave_as, leave, leave_all, subscribe_reply_as, unsubscribe_reply_as}
use Rattle.solo_output.specs.Replies.{attach_reply, first_reply_as, with_expiry, disconnect_reply, later_reply, reply_in, reply, solo_step, solo_steps}
use Rattle.solo_output.proofs.NextOuts.{less_of, waiting_behind}
use Rattle.solo_output.proofs.Brokers.{length-shares}
use Rattle.solo_output.proofs.Publishes.{matching_below, below_still}
use Rattle.solo_output.proofs.Subscribes.{position_below}

-- the client may become a member of the group of this slot
abbrev pub MayJoin : Membership ℕ → ℕ → Type 0
MayJoin NotMember slot = Unit {0}
MayJoin (Member own) slot = own ≡ slot
MayJoin (Leaving own) slot = own ≡ slot

-- what holds of models of which one becomes the other
pub record Ways (R : SoloState → SoloState → Type 0) : Type 0 where
  pub stays : (solo : SoloState) → R solo solo
  pub goes_on : (one two three : SoloState) → R one two → R two three → R one three
  pub connects : (connect : Connect) (solo : SoloState) → solo.phase ≡ Unconnected → R solo (record solo { phase = Connected; terms = terms_of (inflight_alone solo.max_inflight) connect })
  pub closes : (solo : SoloState) → R solo (with_phase Closed solo)
  pub expires : (expiry : ℕ) (solo : SoloState) → R solo (with_expiry expiry solo)
  pub binds : (share : Share) (solo : SoloState) → slot_of share.text (shares_of solo.groups) ≡ None → length solo.groups < most_routes → R solo (with_share share solo)
  pub joins : (slot : ℕ) (solo : SoloState) → MayJoin solo.membership slot → slot < length solo.groups → R solo (with_membership (Member slot) solo)
  pub leaves : (slot : ℕ) (solo : SoloState) → solo.membership ≡ Member slot → R solo (with_membership (Leaving slot) solo)
  pub parts : (slot : ℕ) (solo : SoloState) → solo.membership ≡ Leaving slot → unacknowledged solo ≡ [] → R solo (with_membership NotMember solo)
  pub subscribes : (subscription : Option ℕ) (solo : SoloState) → R solo (with_subscription subscription solo)

abbrev pub Accepts : (SoloState → SoloState → Type 0) → Type 0
Accepts R = (slot : ℕ) (message : Message) (solo : SoloState) → slot < length solo.groups → is_full slot solo ≡ false → R solo (with_message slot message solo)

abbrev pub Settles : (SoloState → SoloState → Type 0) → Type 0
Settles R = (identifier code : ℕ) (solo : SoloState) → R solo (with_puback identifier code solo)

abbrev pub Hands : (SoloState → SoloState → Type 0) → Type 0
Hands R =
    (slot : ℕ) (message : Message) (rest : List Message) (solo : SoloState) → solo.phase ≡ Connected → solo.membership ≡ Member slot → length (unacknowledged solo) < quota solo → waiting_in slot solo ≡ message ∷ rest
    → R solo (with_hand_out (next_hand_out slot message solo) solo)

module _ (R : SoloState → SoloState → Type 0) (ways : Ways R) where
  -- ---- a SUBSCRIBE, an UNSUBSCRIBE

  free : (solo : SoloState) (membership : Membership ℕ) (slot : ℕ) → solo.membership ≡ membership → MayJoin membership slot → MayJoin solo.membership slot
  free solo membership slot is may = subst (λ (m : Membership ℕ). MayJoin m slot) (sym is) may

  bound_here : (share : Share) (solo : SoloState) (slot : ℕ) → slot_of share.text (shares_of solo.groups) ≡ Some slot → slot < length solo.groups
  bound_here share solo slot found =
      let within = position_below _ (shares_of solo.groups) slot found in
      omega (arith, within, length-shares solo.groups)

  enters : (found : Option ℕ) (share : Share) (solo : SoloState) → slot_of share.text (shares_of solo.groups) ≡ found → solo.membership ≡ NotMember → R solo (enter found share solo).solo
  enters (Some slot) share solo found is = ways.joins slot solo (free solo NotMember slot is tt) (bound_here share solo slot found)
  enters None share solo found is =
      let slot = length solo.groups in
      cond_both (nat_lt slot most_routes) (coded 1 (with_membership (Member slot) (with_share share solo))) (coded 0x97 solo) (λ one. R solo one.solo)
      (λ room.
      ways.goes_on solo (with_share share solo) (with_membership (Member slot) (with_share share solo))
      (ways.binds share solo found (ltb-true slot most_routes room))
      (ways.joins slot (with_share share solo) (free (with_share share solo) NotMember slot is tt) (omega (arith, length_push solo.groups (bound share)))))
      (λ full. ways.stays solo)

  found_slot : (slot : ℕ) (found : Option ℕ) → is_slot slot found ≡ true → found ≡ Some slot
  found_slot slot None is = absurd cc
  found_slot slot (Some other) is = ap (λ (n : ℕ). Some n) (eqb-true other slot is)

  remains : (slot : ℕ) (share : Share) (solo : SoloState) → MayJoin solo.membership slot → R solo (stay slot (slot_of share.text (shares_of solo.groups)) solo).solo
  remains slot share solo may =
      let found = slot_of share.text (shares_of solo.groups) in
      cond_both (is_slot slot found) (coded 1 (with_membership (Member slot) solo)) (coded 0x97 solo) (λ one. R solo one.solo)
      (λ is. ways.joins slot solo may (bound_here share solo slot (found_slot slot found is)))
      (λ other. ways.stays solo)

  joins : (membership : Membership ℕ) (share : Share) (solo : SoloState) → solo.membership ≡ membership → R solo (join_as membership (slot_of share.text (shares_of solo.groups)) share solo).solo
  joins NotMember share solo is = enters (slot_of share.text (shares_of solo.groups)) share solo refl is
  joins (Member slot) share solo is = remains slot share solo (free solo (Member slot) slot is refl)
  joins (Leaving slot) share solo is = remains slot share solo (free solo (Leaving slot) slot is refl)

  enters_as : (answer : EntryAnswer) (solo : SoloState) → R solo (entry_reply answer solo).solo
  enters_as (entries.Refuse code) solo = ways.stays solo
  enters_as (entries.Join share) solo = joins solo.membership share solo refl

  joins_all : (entries : List Subscription) (solo : SoloState) → R solo (join_all entries solo).solo
  joins_all [] solo = ways.stays solo
  joins_all (entry ∷ entries) solo =
      let next = (entry_reply (entry_answer entry) solo).solo in
      ways.goes_on solo next (join_all entries next).solo (enters_as (entry_answer entry) solo) (joins_all entries next)

  pub subscribes : (refusal : Option ℕ) (subscribe : Subscribe) (solo : SoloState) → R solo (subscribe_reply_as refusal subscribe solo).solo
  subscribes (Some code) subscribe solo = ways.closes solo
  subscribes None subscribe solo =
      let all = join_all subscribe.subscriptions solo in
      let subscription = subscription_after all.codes subscribe.properties.subscription_identifier all.solo.subscription in
      ways.goes_on solo all.solo (with_subscription subscription all.solo) (joins_all subscribe.subscriptions solo) (ways.subscribes subscription all.solo)

  leaves_as : (membership : Membership ℕ) (parsed : Result Share TopicError) (solo : SoloState) → solo.membership ≡ membership → R solo (leave_as membership parsed solo).solo
  leaves_as (Member slot) (Ok share) solo is =
      cond_both (is_slot slot (slot_of share.text (shares_of solo.groups))) (coded 0 (with_membership (Leaving slot) solo)) (coded 0x11 solo) (λ one. R solo one.solo)
      (λ its. ways.leaves slot solo is)
      (λ other. ways.stays solo)
  leaves_as (Member slot) (Err refusal) solo is = ways.stays solo
  leaves_as NotMember parsed solo is = ways.stays solo
  leaves_as (Leaving slot) parsed solo is = ways.stays solo

  leaves_all : (texts : List (List ℕ)) (solo : SoloState) → R solo (leave_all texts solo).solo
  leaves_all [] solo = ways.stays solo
  leaves_all (text ∷ texts) solo =
      ways.goes_on solo (leave text solo).solo (leave_all texts (leave text solo).solo).solo
      (leaves_as solo.membership (share_of text) solo refl) (leaves_all texts (leave text solo).solo)

  pub unsubscribes : (refusal : Option ℕ) (unsubscribe : Unsubscribe) (solo : SoloState) → R solo (unsubscribe_reply_as refusal unsubscribe solo).solo
  unsubscribes (Some code) unsubscribe solo = ways.closes solo
  unsubscribes None unsubscribe solo = leaves_all unsubscribe.filters solo

  -- ---- the first packet, and the last

  pub disconnects : (expiry : Option ℕ) (solo : SoloState) → R solo (disconnect_reply expiry solo).solo
  disconnects None solo = ways.closes solo
  disconnects (Some expiry) solo =
      let granted = granted_expiry solo.terms expiry in
      cond_both (is_given_expiry expiry solo.terms) (closing (Some (disconnecting 0x82)) solo) (closing None (with_expiry granted solo)) (λ reply. R solo reply.solo)
      (λ given. ways.closes solo)
      (λ other. ways.goes_on solo (with_expiry granted solo) (with_phase Closed (with_expiry granted solo)) (ways.expires granted solo) (ways.closes (with_expiry granted solo)))

  attaches : (packet : Packet) (solo : SoloState) → solo.phase ≡ Unconnected → R solo (attach_reply packet solo).solo
  attaches (packets.Connect connect) solo is = ways.connects connect solo is
  attaches (packets.Publish publish) solo is = ways.closes solo
  attaches (packets.Puback puback) solo is = ways.closes solo
  attaches (packets.Subscribe subscribe) solo is = ways.closes solo
  attaches (packets.Unsubscribe unsubscribe) solo is = ways.closes solo
  attaches packets.Pingreq solo is = ways.closes solo
  attaches (packets.Disconnect disconnect) solo is = ways.closes solo
  attaches (packets.Connack connack) solo is = ways.closes solo
  attaches (packets.Suback suback) solo is = ways.closes solo
  attaches (packets.Unsuback unsuback) solo is = ways.closes solo
  attaches packets.Pingresp solo is = ways.closes solo
  attaches (packets.Foreign kind) solo is = ways.closes solo
  attaches (packets.OtherVersion version) solo is = ways.closes solo
  attaches packets.WithWill solo is = ways.closes solo

  pub firsts : (answer : FirstAnswer) (packet : Packet) (solo : SoloState) → solo.phase ≡ Unconnected → R solo (first_reply_as answer packet solo).solo
  firsts first.Close packet solo is = ways.closes solo
  firsts (first.Refuse refusal) packet solo is = ways.closes solo
  firsts first.Attach packet solo is = attaches packet solo is

  -- ---- who leaves

  left : (slot : ℕ) (solo : SoloState) → solo.membership ≡ Leaving slot → (identifiers : List ℕ) → unacknowledged solo ≡ identifiers → R solo (with_membership (left_with slot identifiers) solo)
  left slot solo is [] none = ways.parts slot solo is none
  left slot solo is (identifier ∷ identifiers) some = subst (λ (m : Membership ℕ). R solo (with_membership m solo)) is (ways.stays solo)

-- ---- every reply

module _ (R : SoloState → SoloState → Type 0) (ways : Ways R) (accepts : Accepts R) (settles : Settles R) where
  offers : (slots : List ℕ) (message : Message) (solo : SoloState) → AllByRecursion (λ slot. slot < length solo.groups) slots → R solo (offer_to slots message solo).solo
  offers [] message solo below = ways.stays solo
  offers (slot ∷ slots) message solo below =
      cond_both (is_full slot solo) (offer_to slots message solo) (taken_too (offer_to slots message (with_message slot message solo))) (λ offered. R solo offered.solo)
      (λ full. offers slots message solo below.1)
      (λ room.
      ways.goes_on solo (with_message slot message solo) (offer_to slots message (with_message slot message solo)).solo
      (accepts slot message solo below.0 room)
      (offers slots message (with_message slot message solo) (below_still slot message solo slots below.1)))

  publishes : (answer : PublishAnswer) (publish : Publish) (solo : SoloState) → R solo (publish_reply_as answer publish solo).solo
  publishes (publishing.Close code) publish solo = ways.closes solo
  publishes (publishing.Offer identifier) publish solo = offers (matching publish.topic solo) (message_of 0 publish) solo (matching_below publish.topic solo)

  later : (packet : Packet) (solo : SoloState) → R solo (later_reply packet solo).solo
  later (packets.Publish publish) solo = publishes (publish_answer publish) publish solo
  later (packets.Puback puback) solo = settles puback.packet_identifier puback.reason_code solo
  later (packets.Subscribe subscribe) solo = subscribes R ways (subscribe_refusal subscribe) subscribe solo
  later (packets.Unsubscribe unsubscribe) solo = unsubscribes R ways (unsubscribe_refusal unsubscribe) unsubscribe solo
  later packets.Pingreq solo = ways.stays solo
  later (packets.Disconnect disconnect) solo = disconnects R ways disconnect.properties.session_expiry_interval solo
  later (packets.Connect connect) solo = ways.closes solo
  later (packets.Connack connack) solo = ways.closes solo
  later (packets.Suback suback) solo = ways.closes solo
  later (packets.Unsuback unsuback) solo = ways.closes solo
  later packets.Pingresp solo = ways.closes solo
  later (packets.Foreign kind) solo = ways.closes solo
  later (packets.OtherVersion version) solo = ways.closes solo
  later packets.WithWill solo = ways.closes solo

  replies : (phase : Phase) (packet : Packet) (solo : SoloState) → solo.phase ≡ phase → R solo (reply_in phase packet solo).solo
  replies Unconnected packet solo is = firsts R ways (first_answer None packet) packet solo is
  replies Connected packet solo is = later packet solo
  replies Closed packet solo is = ways.stays solo

  pub replied : (packet : Packet) (solo : SoloState) → R solo (reply packet solo).solo
  replied packet solo = replies solo.phase packet solo refl

-- ---- what goes out after a reply

module _ (R : SoloState → SoloState → Type 0) (ways : Ways R) (hands : Hands R) where
  pub hands_out : (slot : ℕ) (messages : List Message) (solo : SoloState) → solo.phase ≡ Connected → solo.membership ≡ Member slot → waiting_in slot solo ≡ messages → R solo (hand_out slot messages solo).solo
  hands_out slot [] solo connected is waits = ways.stays solo
  hands_out slot (message ∷ messages) solo connected is waits =
      let one = next_hand_out slot message solo in
      let next = with_hand_out one solo in
      cond_both (has_room solo) (sent_before (next_packets message solo) (hand_out slot messages next)) (sends_nothing solo) (λ s. R solo s.solo)
      (λ room.
      ways.goes_on solo next (hand_out slot messages next).solo (hands slot message messages solo connected is (less_of solo room) waits)
      (hands_out slot messages next connected is (waiting_behind one solo message messages waits)))
      (λ full. ways.stays solo)

  delivers_to : (membership : Membership ℕ) (solo : SoloState) → solo.phase ≡ Connected → solo.membership ≡ membership → R solo (deliver_to membership solo).solo
  delivers_to NotMember solo connected is = ways.stays solo
  delivers_to (Member slot) solo connected is = hands_out slot (waiting_in slot solo) solo connected is refl
  delivers_to (Leaving slot) solo connected is = left R ways slot solo is (unacknowledged solo) refl

  delivers_in : (phase : Phase) (solo : SoloState) → solo.phase ≡ phase → R solo (deliver_in phase solo).solo
  delivers_in Unconnected solo is = ways.stays solo
  delivers_in Connected solo is = delivers_to solo.membership solo is refl
  delivers_in Closed solo is = ways.stays solo

  pub delivered : (solo : SoloState) → R solo (deliver solo).solo
  delivered solo = delivers_in solo.phase solo refl

-- ---- every step

module _ (R : SoloState → SoloState → Type 0) (ways : Ways R) (accepts : Accepts R) (settles : Settles R) (hands : Hands R) where
  pub turned : (packet : Packet) (solo : SoloState) → R solo (solo_step packet solo).solo
  turned packet solo = ways.goes_on solo (reply packet solo).solo (solo_step packet solo).solo (replied R ways accepts settles packet solo) (delivered R ways hands (reply packet solo).solo)

  pub ran : (packets : List Packet) (solo : SoloState) → R solo (solo_steps packets solo).solo
  ran [] solo = ways.stays solo
  ran (packet ∷ packets) solo = ways.goes_on solo (solo_step packet solo).solo (solo_steps packets (solo_step packet solo).solo).solo (turned packet solo) (ran packets (solo_step packet solo).solo)
