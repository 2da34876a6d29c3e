-- How a client comes into a group, and out of it.
use Rattle.std.proofs.Common.{◌≡◌, ◌≢◌, ◌⊎◌, ℕ, zero, suc, ◌==◌, ◌||◌, Bool, true, false, cond, List, [], ◌∷◌, slice_get, Option, Some, None, refl, sym, ap, ◌∙◌, subst, inl, inr, ⊎_elim, eqb-true, eq-eqb}
use Rattle.std.specs.List.{list_any}
use Rattle.std.proofs.lemmas.Bool.{cases_Bool, cond_both}
use Rattle.std.proofs.lemmas.Option.{none-some, same_Some}
use Rattle.mqtt_packet.specs.declared.packet.Packet.{Packet}
use Rattle.mqtt_packet.specs.declared.packet.Packet.TheVariants as packets
use Rattle.mqtt_packet.specs.declared.packet.Connect.{Connect}
use Rattle.mqtt_packet.specs.declared.packet.Publish.{Publish}
use Rattle.mqtt_packet.specs.declared.packet.Subscribe.{Subscribe}
use Rattle.mqtt_packet.specs.declared.packet.Suback.{Suback}
use Rattle.mqtt_packet.specs.declared.packet.Unsuback.{Unsuback}
use Rattle.mqtt_packet.specs.declared.packet.Unsubscribe.{Unsubscribe}
use Rattle.mqtt_topic.specs.Names.{Share}
use Rattle.mqtt_topic.specs.Routes.{slot_of}
use Rattle.session_desk.specs.declared.session.Membership.{Membership}
use Rattle.session_desk.specs.declared.session.Membership.TheVariants.{NotMember, Member, Leaving}
use Rattle.conn_rules.specs.declared.connecting.FirstAnswer.{FirstAnswer}
use Rattle.conn_rules.specs.declared.connecting.FirstAnswer.TheVariants as first
use Rattle.conn_rules.specs.declared.publishing.PublishAnswer.{PublishAnswer}
use Rattle.conn_rules.specs.declared.publishing.PublishAnswer.TheVariants as publishing
use Rattle.conn_rules.specs.Connecting.{connect_answer, is_given_expiry, granted_expiry}
use Rattle.conn_rules.specs.Packets.{disconnect as disconnecting, suback, unsuback}
use Rattle.conn_rules.specs.Publishing.{publish_answer, message_of}
use Rattle.conn_rules.specs.Subscribing.{subscribe_refusal, unsubscribe_refusal}
use Rattle.conn_rules.specs.declared.setup.Setup.{Setup}
use Rattle.solo_output.specs.Groups.{SoloState, Bound, HandOut, Phase, opening, shares_of, open_identifiers, unacknowledged}
use Rattle.solo_output.specs.Groups.Phase.{Unconnected, Connected, Closed}
use Rattle.solo_output.specs.HandOuts.{deliver}
use Rattle.solo_output.specs.Publishing.{Reply, closing, matching, publish_reply_as}
use Rattle.solo_output.specs.Subscribing.{AllCoded, join_all, leave_all, subscribe_reply_as, unsubscribe_reply_as}
use Rattle.solo_output.specs.Replies.{first_reply_as, with_expiry, disconnect_reply, later_reply, reply_in, reply, solo_step, solo_steps}
use Rattle.solo_output.specs.Memberships.{HasCode, Joins, Leaves, subscription_in, AsksFor, AsksToLeave}
use Rattle.solo_output.specs.Runs.{run_of, IsInGroup}
use Rattle.solo_output.proofs.Sessions.{offer_keeps}
use Rattle.solo_output.proofs.Joined.{is_in, is_in_as, none_there, filters_of, AllJoin, all_join, HasSlot, serves_own, serves_free}
use Rattle.solo_output.proofs.Parted.{delivers, delivers_under}
use Rattle.solo_output.proofs.Left.{AllLeave, all_leave, lets_go}

-- ---- every reply

-- what a packet and its reply make of the membership and of the Subscription Identifier; and where the connection does not go on, nothing
-- else happens
record Does (packet : Packet) (one : SoloState) (r : Reply) : Type 0 where
  joins : (slot : ℕ) → Joins packet r slot → r.solo.membership ≡ Member slot
  joined : (slot : ℕ) → r.solo.membership ≡ Member slot → (one.membership ≡ Member slot) ⊎ Joins packet r slot
  leaves : (slot : ℕ) → Leaves packet r slot → (one.membership ≡ Member slot) × (r.solo.membership ≡ Leaving slot)
  left : (slot : ℕ) → one.membership ≡ Member slot → (r.solo.membership ≡ Member slot) ⊎ Leaves packet r slot
  leaving : (slot : ℕ) → r.solo.membership ≡ Leaving slot → (one.membership ≡ Leaving slot) ⊎ Leaves packet r slot
  stays_in : (slot : ℕ) → one.membership ≡ Leaving slot → IsInGroup r.solo.membership slot
  identifies : (slot : ℕ) → Joins packet r slot → r.solo.subscription ≡ subscription_in packet
  identified : (r.solo.subscription ≡ one.subscription) ⊎ ((slot : ℕ) × Joins packet r slot)
  ends : (r.solo.phase ≡ Connected) ⊎ ((r.solo.membership ≡ one.membership) × (r.solo.handed_out ≡ one.handed_out))

does_no_more : (packet : Packet) (one : SoloState) (r : Reply) → r.solo.membership ≡ one.membership → r.solo.subscription ≡ one.subscription → ((slot : ℕ) → Joins packet r slot → ⊥) → ((slot : ℕ) → Leaves packet r slot → ⊥)
    → (r.solo.phase ≡ Connected) ⊎ ((r.solo.membership ≡ one.membership) × (r.solo.handed_out ≡ one.handed_out)) → Does packet one r
does_no_more packet one r same as_before no_join no_leave ends =
    record {
      joins = λ slot join. absurd (no_join slot join);
      joined = λ slot now. inl (sym same ∙ now);
      leaves = λ slot leave. absurd (no_leave slot leave);
      left = λ slot was. inl (same ∙ was);
      leaving = λ slot now. inl (sym same ∙ now);
      stays_in = λ slot was. is_in r.solo.membership slot (same ∙ was);
      identifies = λ slot join. absurd (no_join slot join);
      identified = inl as_before;
      ends = ends;
    }

no_suback : (answer : Option Packet) (identifier : ℕ) (codes : List ℕ) → answer ≡ None → answer ≡ Some (suback identifier codes) → ⊥
no_suback answer identifier codes none some = none-some (suback identifier codes) (sym none ∙ some)

no_unsuback : (answer : Option Packet) (identifier : ℕ) (codes : List ℕ) → answer ≡ None → answer ≡ Some (unsuback identifier codes) → ⊥
no_unsuback answer identifier codes none some = none-some (unsuback identifier codes) (sym none ∙ some)

-- where nothing answers, nobody joins and nobody leaves
joins_none : (packet : Packet) (r : Reply) (slot : ℕ) → r.packet ≡ None → Joins packet r slot → ⊥
joins_none (packets.Subscribe subscribe) r slot none join = no_suback r.packet subscribe.packet_identifier join.0 none join.1
joins_none (packets.Connect connect) r slot none join = join
joins_none (packets.Publish publish) r slot none join = join
joins_none (packets.Puback puback) r slot none join = join
joins_none (packets.Unsubscribe unsubscribe) r slot none join = join
joins_none packets.Pingreq r slot none join = join
joins_none (packets.Disconnect disconnect) r slot none join = join
joins_none (packets.Connack connack) r slot none join = join
joins_none (packets.Suback suback') r slot none join = join
joins_none (packets.Unsuback unsuback') r slot none join = join
joins_none packets.Pingresp r slot none join = join
joins_none (packets.Foreign kind) r slot none join = join
joins_none (packets.OtherVersion version) r slot none join = join
joins_none packets.WithWill r slot none join = join

leaves_none : (packet : Packet) (r : Reply) (slot : ℕ) → r.packet ≡ None → Leaves packet r slot → ⊥
leaves_none (packets.Unsubscribe unsubscribe) r slot none leave' = no_unsuback r.packet unsubscribe.packet_identifier leave'.0 none leave'.1
leaves_none (packets.Connect connect) r slot none leave' = leave'
leaves_none (packets.Publish publish) r slot none leave' = leave'
leaves_none (packets.Puback puback) r slot none leave' = leave'
leaves_none (packets.Subscribe subscribe) r slot none leave' = leave'
leaves_none packets.Pingreq r slot none leave' = leave'
leaves_none (packets.Disconnect disconnect) r slot none leave' = leave'
leaves_none (packets.Connack connack) r slot none leave' = leave'
leaves_none (packets.Suback suback') r slot none leave' = leave'
leaves_none (packets.Unsuback unsuback') r slot none leave' = leave'
leaves_none packets.Pingresp r slot none leave' = leave'
leaves_none (packets.Foreign kind) r slot none leave' = leave'
leaves_none (packets.OtherVersion version) r slot none leave' = leave'
leaves_none packets.WithWill r slot none leave' = leave'

-- the connection is closed with no answer
closes : (packet : Packet) (solo : SoloState) → Does packet solo (closing None solo)
closes packet solo = does_no_more packet solo (closing None solo) refl refl (λ slot. joins_none packet (closing None solo) slot refl) (λ slot. leaves_none packet (closing None solo) slot refl) (inr (refl, refl))

-- ---- a SUBSCRIBE and an UNSUBSCRIBE

or_true : (x y : Bool) → y ≡ true → (x || y) ≡ true
or_true true y is = refl
or_true false y is = is

same_codes : (identifier : ℕ) (codes others : List ℕ) → Some (suback identifier codes) ≡ Some (suback identifier others) → codes ≡ others
same_codes identifier codes others e =
    let same : ◌≡◌ {A = Suback} (record { packet_identifier = identifier; reason_codes = codes }) (record { packet_identifier = identifier; reason_codes = others }) = cc in
    ap (λ (s : Suback). s.reason_codes) same

same_codes_back : (identifier : ℕ) (codes others : List ℕ) → Some (unsuback identifier codes) ≡ Some (unsuback identifier others) → codes ≡ others
same_codes_back identifier codes others e =
    let same : ◌≡◌ {A = Unsuback} (record { packet_identifier = identifier; reason_codes = codes }) (record { packet_identifier = identifier; reason_codes = others }) = cc in
    ap (λ (s : Unsuback). s.reason_codes) same

closed_no_suback : (code identifier : ℕ) (codes : List ℕ) → Some (disconnecting code) ≡ Some (suback identifier codes) → ⊥
closed_no_suback code identifier codes e = absurd cc

closed_no_unsuback : (code identifier : ℕ) (codes : List ℕ) → Some (disconnecting code) ≡ Some (unsuback identifier codes) → ⊥
closed_no_unsuback code identifier codes e = absurd cc

-- a SUBACK that has 01
has_one : (codes : List ℕ) (place : ℕ) → slice_get codes place ≡ Some 1 → list_any (λ code. code == 1) codes ≡ true
has_one [] place told = absurd (none_there place 1 told)
has_one (code ∷ codes) zero told = ap (λ (b : Bool). b || list_any (λ other. other == 1) codes) (eq-eqb code 1 (same_Some code 1 told))
has_one (code ∷ codes) (suc place) told = or_true (code == 1) (list_any (λ other. other == 1) codes) (has_one codes place told)

one_in : (codes : List ℕ) → list_any (λ code. code == 1) codes ≡ true → (place : ℕ) × (slice_get codes place ≡ Some 1)
one_in [] some = absurd cc
one_in (code ∷ codes) some =
    ⊎_elim
    (λ (is : (code == 1) ≡ true). (zero, ap (λ (n : ℕ). Some n) (eqb-true code 1 is)))
    (λ (other : (code == 1) ≡ false). let later = one_in codes (ap (λ (b : Bool). b || list_any (λ other. other == 1) codes) (sym other) ∙ some) in (suc later.0, later.1))
    (cases_Bool (code == 1))

subscribe_does : (refusal : Option ℕ) (subscribe : Subscribe) (solo : SoloState) → solo.phase ≡ Connected → Does (packets.Subscribe subscribe) solo (subscribe_reply_as refusal subscribe solo)
subscribe_does (Some code) subscribe solo connected =
    does_no_more (packets.Subscribe subscribe) solo (closing (Some (disconnecting code)) solo) refl refl
    (λ slot join. closed_no_suback code subscribe.packet_identifier join.0 join.1) (λ slot leave'. leave') (inr (refl, refl))
subscribe_does None subscribe solo connected =
    record {
      joins = λ slot join.
          let same = same_codes subscribe.packet_identifier all.codes join.0 join.1 in
          does.joins join.2.place slot join.2.filter join.2.asked (ap (λ (l : List ℕ). slice_get l join.2.place) same ∙ join.2.coded) join.2.its;
      joined = λ slot now.
          ⊎_elim
          (λ (was : solo.membership ≡ Member slot). inl was)
          (λ (has : HasCode (filters_of subscribe.subscriptions) all.codes 1 slot (shares_of all.solo.groups)). inr (all.codes, refl, has))
          (does.joined slot now);
      leaves = λ slot leave'. absurd leave';
      left = λ slot was. inl (does.stays slot was);
      leaving = λ slot now. inl (does.leaving slot now);
      stays_in = λ slot was. does.stays_in slot (is_in solo.membership slot was);
      identifies = λ slot join.
          let same = same_codes subscribe.packet_identifier all.codes join.0 join.1 in
          ap (λ (b : Bool). cond b identifier all.solo.subscription) (has_one all.codes join.2.place (ap (λ (l : List ℕ). slice_get l join.2.place) same ∙ join.2.coded));
      identified =
          ⊎_elim
          (λ (some : list_any (λ code. code == 1) all.codes ≡ true).
          let at = one_in all.codes some in
          let has = does.granted at.0 at.1 in
          inr (has.0, (all.codes, refl, has.1)))
          (λ (none : list_any (λ code. code == 1) all.codes ≡ false). inl (ap (λ (b : Bool). cond b identifier all.solo.subscription) none ∙ does.follows.subscription))
          (cases_Bool (list_any (λ code. code == 1) all.codes));
      ends = inl (does.follows.phase ∙ connected);
    }
  where
    identifier : Option ℕ
    identifier = subscribe.properties.subscription_identifier

    all : AllCoded
    all = join_all subscribe.subscriptions solo

    does : AllJoin (filters_of subscribe.subscriptions) solo all
    does = all_join subscribe.subscriptions solo

unsubscribe_does : (refusal : Option ℕ) (unsubscribe : Unsubscribe) (solo : SoloState) → solo.phase ≡ Connected → Does (packets.Unsubscribe unsubscribe) solo (unsubscribe_reply_as refusal unsubscribe solo)
unsubscribe_does (Some code) unsubscribe solo connected =
    does_no_more (packets.Unsubscribe unsubscribe) solo (closing (Some (disconnecting code)) solo) refl refl
    (λ slot join. join) (λ slot leave'. closed_no_unsuback code unsubscribe.packet_identifier leave'.0 leave'.1) (inr (refl, refl))
unsubscribe_does None unsubscribe solo connected =
    record {
      joins = λ slot join. absurd join;
      joined = λ slot now. inl (does.was slot now);
      leaves = λ slot leave'.
          let same = same_codes_back unsubscribe.packet_identifier all.codes leave'.0 leave'.1 in
          does.leaves leave'.2.place slot leave'.2.filter leave'.2.asked (ap (λ (l : List ℕ). slice_get l leave'.2.place) same ∙ leave'.2.coded)
          (ap (λ (gs : List Bound). slot_of leave'.2.filter (shares_of gs)) (sym does.groups) ∙ leave'.2.its);
      left = λ slot was.
          ⊎_elim
          (λ (now : all.solo.membership ≡ Member slot). inl now)
          (λ (has : HasCode unsubscribe.filters all.codes 0 slot (shares_of solo.groups)). inr (told slot has))
          (does.left slot was);
      leaving = λ slot now.
          ⊎_elim
          (λ (was : solo.membership ≡ Leaving slot). inl was)
          (λ (has : HasCode unsubscribe.filters all.codes 0 slot (shares_of solo.groups)). inr (told slot has))
          (does.leaving slot now);
      stays_in = λ slot was. is_in all.solo.membership slot (does.stays slot was);
      identifies = λ slot join. absurd join;
      identified = inl does.subscription;
      ends = inl (does.phase ∙ connected);
    }
  where
    all : AllCoded
    all = leave_all unsubscribe.filters solo

    does : AllLeave unsubscribe.filters solo all
    does = all_leave unsubscribe.filters solo

    told : (slot : ℕ) → HasCode unsubscribe.filters all.codes 0 slot (shares_of solo.groups) → Leaves (packets.Unsubscribe unsubscribe) (unsubscribe_reply_as None unsubscribe solo) slot
    told slot has = (all.codes, refl, subst (λ (gs : List Bound). HasCode unsubscribe.filters all.codes 0 slot (shares_of gs)) (sym does.groups) has)

-- ---- the other packets

abbrev Quiet : Packet → Type 0
Quiet packet = (r : Reply) (slot : ℕ) → (Joins packet r slot → ⊥) × (Leaves packet r slot → ⊥)

module _ (packet : Packet) (quiet : Quiet packet) (solo : SoloState) where
  keeps_all : (r : Reply) → r.solo.membership ≡ solo.membership → r.solo.subscription ≡ solo.subscription → (r.solo.phase ≡ Connected) ⊎ ((r.solo.membership ≡ solo.membership) × (r.solo.handed_out ≡ solo.handed_out)) → Does packet solo r
  keeps_all r same as_before ends = does_no_more packet solo r same as_before (λ slot. (quiet r slot).0) (λ slot. (quiet r slot).1) ends

  answers_closing : (answer : Option Packet) → Does packet solo (closing answer solo)
  answers_closing answer = keeps_all (closing answer solo) refl refl (inr (refl, refl))

  answers_staying : solo.phase ≡ Connected → (answer : Option Packet) → Does packet solo (record { packet = answer; solo = solo })
  answers_staying connected answer = keeps_all (record { packet = answer; solo = solo }) refl refl (inl connected)

neither : (r : Reply) (slot : ℕ) → (⊥ → ⊥) × (⊥ → ⊥)
neither r slot = (λ e. e, λ e. e)

publish_does : (answer : PublishAnswer) (publish : Publish) (solo : SoloState) → solo.phase ≡ Connected → Does (packets.Publish publish) solo (publish_reply_as answer publish solo)
publish_does (publishing.Close code) publish solo connected = answers_closing (packets.Publish publish) neither solo (Some (disconnecting code))
publish_does (publishing.Offer identifier) publish solo connected =
    let keeps = offer_keeps (matching publish.topic solo) (message_of 0 publish) solo in
    keeps_all (packets.Publish publish) neither solo (publish_reply_as (publishing.Offer identifier) publish solo) keeps.same.membership keeps.same.subscription (inl (keeps.same.phase ∙ connected))

disconnect_does : (packet : Packet) (quiet : Quiet packet) (expiry : Option ℕ) (solo : SoloState) → Does packet solo (disconnect_reply expiry solo)
disconnect_does packet quiet None solo = answers_closing packet quiet solo None
disconnect_does packet quiet (Some expiry) solo =
    cond_both (is_given_expiry expiry solo.terms) (closing (Some (disconnecting 0x82)) solo) (closing None (with_expiry (granted_expiry solo.terms expiry) solo)) (Does packet solo)
    (λ given. answers_closing packet quiet solo (Some (disconnecting 0x82)))
    (λ other. keeps_all packet quiet solo (closing None (with_expiry (granted_expiry solo.terms expiry) solo)) refl refl (inr (refl, refl)))

later_does : (packet : Packet) (solo : SoloState) → solo.phase ≡ Connected → Does packet solo (later_reply packet solo)
later_does (packets.Publish publish) solo connected = publish_does (publish_answer publish) publish solo connected
later_does (packets.Puback puback) solo connected = keeps_all (packets.Puback puback) neither solo (later_reply (packets.Puback puback) solo) refl refl (inl connected)
later_does (packets.Subscribe subscribe) solo connected = subscribe_does (subscribe_refusal subscribe) subscribe solo connected
later_does (packets.Unsubscribe unsubscribe) solo connected = unsubscribe_does (unsubscribe_refusal unsubscribe) unsubscribe solo connected
later_does packets.Pingreq solo connected = answers_staying packets.Pingreq neither solo connected _
later_does (packets.Disconnect disconnect) solo connected = disconnect_does (packets.Disconnect disconnect) neither disconnect.properties.session_expiry_interval solo
later_does (packets.Connect connect) solo connected = answers_closing (packets.Connect connect) neither solo _
later_does (packets.Connack connack) solo connected = answers_closing (packets.Connack connack) neither solo _
later_does (packets.Suback suback') solo connected = answers_closing (packets.Suback suback') neither solo _
later_does (packets.Unsuback unsuback') solo connected = answers_closing (packets.Unsuback unsuback') neither solo _
later_does packets.Pingresp solo connected = answers_closing packets.Pingresp neither solo _
later_does (packets.Foreign kind) solo connected = answers_closing (packets.Foreign kind) neither solo _
later_does (packets.OtherVersion version) solo connected = answers_closing (packets.OtherVersion version) neither solo _
later_does packets.WithWill solo connected = answers_closing packets.WithWill neither solo _

connect_does : (answer : FirstAnswer) (connect : Connect) (solo : SoloState) → Does (packets.Connect connect) solo (first_reply_as answer (packets.Connect connect) solo)
connect_does first.Close connect solo = closes (packets.Connect connect) solo
connect_does (first.Refuse refusal) connect solo = answers_closing (packets.Connect connect) neither solo _
connect_does first.Attach connect solo = keeps_all (packets.Connect connect) neither solo (first_reply_as first.Attach (packets.Connect connect) solo) refl refl (inl refl)

first_does : (packet : Packet) (solo : SoloState) → Does packet solo (reply_in Unconnected packet solo)
first_does (packets.Connect connect) solo = connect_does (connect_answer None connect) connect solo
first_does (packets.Publish publish) solo = closes (packets.Publish publish) solo
first_does (packets.Puback puback) solo = closes (packets.Puback puback) solo
first_does (packets.Subscribe subscribe) solo = closes (packets.Subscribe subscribe) solo
first_does (packets.Unsubscribe unsubscribe) solo = closes (packets.Unsubscribe unsubscribe) solo
first_does packets.Pingreq solo = closes packets.Pingreq solo
first_does (packets.Disconnect disconnect) solo = closes (packets.Disconnect disconnect) solo
first_does (packets.Connack connack) solo = closes (packets.Connack connack) solo
first_does (packets.Suback suback') solo = closes (packets.Suback suback') solo
first_does (packets.Unsuback unsuback') solo = closes (packets.Unsuback unsuback') solo
first_does packets.Pingresp solo = closes packets.Pingresp solo
first_does (packets.Foreign kind) solo = closes (packets.Foreign kind) solo
first_does (packets.OtherVersion version) solo = answers_closing (packets.OtherVersion version) neither solo _
first_does packets.WithWill solo = answers_closing packets.WithWill neither solo _

reply_does_in : (phase : Phase) (packet : Packet) (solo : SoloState) → solo.phase ≡ phase → Does packet solo (reply_in phase packet solo)
reply_does_in Unconnected packet solo is = first_does packet solo
reply_does_in Connected packet solo is = later_does packet solo is
reply_does_in Closed packet solo is =
    let r : Reply = record { packet = None; solo = solo } in
    does_no_more packet solo r refl refl (λ slot. joins_none packet r slot refl) (λ slot. leaves_none packet r slot refl) (inr (refl, refl))

reply_does : (packet : Packet) (solo : SoloState) → Does packet solo (reply packet solo)
reply_does packet solo = reply_does_in solo.phase packet solo refl

-- ---- every step

pub step_joins : (solo : SoloState) (packet : Packet) (slot : ℕ) → Joins packet (reply packet solo) slot → (solo_step packet solo).solo.membership ≡ Member slot
step_joins solo packet slot join = (delivers (reply packet solo).solo).stays slot ((reply_does packet solo).joins slot join)

pub step_joined : (solo : SoloState) (packet : Packet) (slot : ℕ) → (solo_step packet solo).solo.membership ≡ Member slot → (solo.membership ≡ Member slot) ⊎ Joins packet (reply packet solo) slot
step_joined solo packet slot now = (reply_does packet solo).joined slot ((delivers (reply packet solo).solo).was slot now)

pub step_identifies : (solo : SoloState) (packet : Packet) (slot : ℕ) → Joins packet (reply packet solo) slot → (solo_step packet solo).solo.subscription ≡ subscription_in packet
step_identifies solo packet slot join = delivers_under (reply packet solo).solo ∙ (reply_does packet solo).identifies slot join

pub step_identified : (solo : SoloState) (packet : Packet) → ((solo_step packet solo).solo.subscription ≡ solo.subscription) ⊎ ((slot : ℕ) × Joins packet (reply packet solo) slot)
step_identified solo packet =
    ⊎_elim
    (λ (still : (reply packet solo).solo.subscription ≡ solo.subscription). inl (delivers_under (reply packet solo).solo ∙ still))
    (λ (join : (slot : ℕ) × Joins packet (reply packet solo) slot). inr join)
    (reply_does packet solo).identified

pub step_leaves : (solo : SoloState) (packet : Packet) (slot : ℕ) → Leaves packet (reply packet solo) slot → let next = (solo_step packet solo).solo in
    (solo.membership ≡ Member slot) × ((next.membership ≡ Leaving slot) ⊎ ((next.membership ≡ NotMember) × (unacknowledged next ≡ [])))
step_leaves solo packet slot leave' =
    let does = (reply_does packet solo).leaves slot leave' in
    (does.0, (delivers (reply packet solo).solo).parts slot does.1)

pub step_left : (solo : SoloState) (packet : Packet) (slot : ℕ) → solo.membership ≡ Member slot → ((solo_step packet solo).solo.membership ≡ Member slot) ⊎ Leaves packet (reply packet solo) slot
step_left solo packet slot was =
    ⊎_elim
    (λ (still : (reply packet solo).solo.membership ≡ Member slot). inl ((delivers (reply packet solo).solo).stays slot still))
    (λ (leave' : Leaves packet (reply packet solo) slot). inr leave')
    ((reply_does packet solo).left slot was)

pub step_leaving : (solo : SoloState) (packet : Packet) (slot : ℕ) → (solo_step packet solo).solo.membership ≡ Leaving slot → (solo.membership ≡ Leaving slot) ⊎ Leaves packet (reply packet solo) slot
step_leaving solo packet slot now = (reply_does packet solo).leaving slot ((delivers (reply packet solo).solo).leaving slot now)

parted : (membership : Membership ℕ) (replied : SoloState) (slot : ℕ) → replied.membership ≡ membership → IsInGroup membership slot → let next = (deliver replied).solo in
    IsInGroup next.membership slot ⊎ ((next.membership ≡ NotMember) × (unacknowledged next ≡ []))
parted NotMember replied slot is in_ = absurd in_
parted (Member own) replied slot is in_ = inl (is_in_as (deliver replied).solo.membership slot ((delivers replied).stays slot (is ∙ ap (λ (n : ℕ). Member n) in_)))
parted (Leaving own) replied slot is in_ =
    let next = (deliver replied).solo in
    ⊎_elim
    (λ (still : next.membership ≡ Leaving slot). inl (is_in next.membership slot still))
    (λ (gone : (next.membership ≡ NotMember) × (unacknowledged next ≡ [])). inr gone)
    ((delivers replied).parts slot (is ∙ ap (λ (n : ℕ). Leaving n) in_))

pub step_parts : (solo : SoloState) (packet : Packet) (slot : ℕ) → solo.membership ≡ Leaving slot → let next = (solo_step packet solo).solo in
    IsInGroup next.membership slot ⊎ ((next.membership ≡ NotMember) × (unacknowledged next ≡ []))
step_parts solo packet slot was = parted (reply packet solo).solo.membership (reply packet solo).solo slot refl ((reply_does packet solo).stays_in slot was)

-- who is leaving has not acknowledged all
abbrev Owes : SoloState → Type 0
Owes solo = (slot : ℕ) → solo.membership ≡ Leaving slot → unacknowledged solo ≢ []

owes_turned : (packet : Packet) (solo : SoloState) → Owes solo → Owes (solo_step packet solo).solo
owes_turned packet solo owes =
    let r = (reply packet solo).solo in
    (delivers r).owes
    (⊎_elim
    (λ (connected : r.phase ≡ Connected). inl connected)
    (λ (same : (r.membership ≡ solo.membership) × (r.handed_out ≡ solo.handed_out)).
    inr (λ slot now none. owes slot (sym same.0 ∙ now) (ap (λ (hs : List HandOut). open_identifiers hs) (sym same.1) ∙ none)))
    (reply_does packet solo).ends)

owes_ran : (packets : List Packet) (solo : SoloState) → Owes solo → Owes (solo_steps packets solo).solo
owes_ran [] solo owes = owes
owes_ran (packet ∷ packets) solo owes = owes_ran packets (solo_step packet solo).solo (owes_turned packet solo owes)

pub owes_all : (setup : Setup) (packets : List Packet) (slot : ℕ) → (run_of setup packets).solo.membership ≡ Leaving slot → unacknowledged (run_of setup packets).solo ≢ []
owes_all setup packets = owes_ran packets (opening setup.capacity setup.max_inflight setup.groups) (λ slot now. absurd cc)

-- ---- who asks

subscribe_is : (subscribe : Subscribe) (share : Share) (solo : SoloState) → AsksFor subscribe share solo → reply (packets.Subscribe subscribe) solo ≡ subscribe_reply_as None subscribe solo
subscribe_is subscribe share solo asks =
    ap (λ (p : Phase). reply_in p (packets.Subscribe subscribe) solo) asks.connected ∙ ap (λ (r : Option ℕ). subscribe_reply_as r subscribe solo) asks.goes_on

pub step_admits : (solo : SoloState) (subscribe : Subscribe) (share : Share) → AsksFor subscribe share solo → solo.membership ≡ NotMember → HasSlot share solo
    → (slot : ℕ) × Joins (packets.Subscribe subscribe) (reply (packets.Subscribe subscribe) solo) slot
step_admits solo subscribe share asks none has =
    let told = serves_free share subscribe.subscriptions solo asks.place asks.entry asks.asked asks.served none has in
    (told.0, subst (λ (r : Reply). Joins (packets.Subscribe subscribe) r told.0) (sym (subscribe_is subscribe share solo asks)) ((join_all subscribe.subscriptions solo).codes, refl, told.1))

pub step_readmits : (solo : SoloState) (subscribe : Subscribe) (share : Share) (slot : ℕ) → AsksFor subscribe share solo → IsInGroup solo.membership slot → slot_of share.text (shares_of solo.groups) ≡ Some slot
    → Joins (packets.Subscribe subscribe) (reply (packets.Subscribe subscribe) solo) slot
step_readmits solo subscribe share slot asks in_ found =
    subst (λ (r : Reply). Joins (packets.Subscribe subscribe) r slot) (sym (subscribe_is subscribe share solo asks))
    ((join_all subscribe.subscriptions solo).codes, refl, serves_own share subscribe.subscriptions solo asks.place slot asks.entry asks.asked asks.served in_ found)

pub step_releases : (solo : SoloState) (unsubscribe : Unsubscribe) (slot : ℕ) → AsksToLeave unsubscribe slot solo → solo.membership ≡ Member slot
    → Leaves (packets.Unsubscribe unsubscribe) (reply (packets.Unsubscribe unsubscribe) solo) slot
step_releases solo unsubscribe slot asks member =
    let all = leave_all unsubscribe.filters solo in
    let is : reply (packets.Unsubscribe unsubscribe) solo ≡ unsubscribe_reply_as None unsubscribe solo =
    ap (λ (p : Phase). reply_in p (packets.Unsubscribe unsubscribe) solo) asks.connected ∙ ap (λ (r : Option ℕ). unsubscribe_reply_as r unsubscribe solo) asks.goes_on in
    subst (λ (r : Reply). Leaves (packets.Unsubscribe unsubscribe) r slot) (sym is) (
      all.codes,
      refl,
      subst (λ (gs : List Bound). HasCode unsubscribe.filters all.codes 0 slot (shares_of gs)) (sym (all_leave unsubscribe.filters solo).groups)
          (lets_go asks.share asks.spelled unsubscribe.filters solo asks.place slot asks.asked member asks.its),
    )
