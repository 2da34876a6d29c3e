-- A step, by its packet: what it sends that is no hand-out, what each group accepts of it, and which hand-outs it settles.
use Rattle.std.proofs.Common.{◌≡◌, ◌≢◌, ◌⊎◌, ℕ, zero, suc, ◌≤◌, Bool, true, false, List, [], ◌∷◌, ◌++◌, length, take, slice_get, Option, Some, None, refl, sym, ap, ◌∙◌, subst, inl, inr, ⊎_elim, arith}
use Rattle.std.specs.Option.{option_to_list}
use Rattle.std.proofs.lemmas.Bool.{cases_eq, cond_both}
use Rattle.std.proofs.lemmas.List.{append-nil, append_assoc, length-map, length_push, take_all, take-append-le}
use Rattle.std.proofs.lemmas.List.Elements.{filter-append}
use Rattle.std.proofs.lemmas.Option.{none-some, same_Some, slice_get_within}
use Rattle.dispatch_core.proofs.Spots.{slice_get-push_same}
use Rattle.mqtt_packet.specs.declared.packet.Packet.{Packet}
use Rattle.mqtt_packet.specs.declared.packet.Packet.TheVariants as kinds
use Rattle.mqtt_packet.specs.declared.packet.Puback.{Puback}
use Rattle.mqtt_packet.specs.declared.packet.Publish.{Publish}
use Rattle.mqtt_packet.specs.declared.packet.Subscribe.{Subscribe}
use Rattle.mqtt_packet.specs.declared.packet.Unsubscribe.{Unsubscribe}
use Rattle.group_jobs.specs.declared.message.Message.{Message}
use Rattle.session_desk.specs.declared.session.Membership.{Membership}
use Rattle.session_desk.specs.declared.session.Membership.TheVariants.{NotMember, Member, Leaving}
use Rattle.conn_rules.specs.declared.connecting.FirstAnswer.{FirstAnswer}
use Rattle.conn_rules.specs.declared.connecting.FirstAnswer.TheVariants as first
use Rattle.conn_rules.specs.declared.publishing.PublishAnswer.{PublishAnswer}
use Rattle.conn_rules.specs.declared.publishing.PublishAnswer.TheVariants as publishing
use Rattle.conn_rules.specs.Connecting.{first_answer, is_given_expiry, granted_expiry}
use Rattle.conn_rules.specs.HandOuts.{is_discarded}
use Rattle.conn_rules.specs.Packets.{job, disconnect as disconnecting}
use Rattle.conn_rules.specs.Publishing.{publish_answer}
use Rattle.conn_rules.specs.Subscribing.{subscribe_refusal, unsubscribe_refusal}
use Rattle.solo_output.specs.Groups.{SoloState, HandOut, Phase, accepted_in, waiting_in, open_identifiers, settled, unacknowledged, with_hand_out}
use Rattle.solo_output.specs.Groups.Outcome.{Unacknowledged, Acknowledged}
use Rattle.solo_output.specs.Groups.Phase.{Unconnected, Connected, Closed}
use Rattle.solo_output.specs.HandOuts.{SoloStep, has_room, least_free, terms_in, packets_unless, next_hand_out, next_packets, sent_before, hand_out, sends_nothing, deliver_to, deliver_in, deliver}
use Rattle.solo_output.specs.Publishing.{Reply, closing, publish_reply_as}
use Rattle.solo_output.specs.Subscribing.{subscribe_reply_as, unsubscribe_reply_as}
use Rattle.solo_output.specs.Replies.{attach_reply, first_reply_as, with_expiry, disconnect_reply, later_reply, reply_in, reply, behind_reply, solo_step, solo_steps}
use Rattle.solo_output.specs.Runs.{taken_of_packet, taken_in_phase, is_publish, published}
use Rattle.solo_output.proofs.Brokers.{accepted_bound}
use Rattle.member_window.specs.Identifiers.{IsLeastFree}
use Rattle.solo_output.proofs.Identifiers.{is_least}
use Rattle.solo_output.proofs.NextOuts.{waiting_behind}
use Rattle.solo_output.proofs.Sessions.{hand_out_keeps, offer_keeps}
use Rattle.solo_output.proofs.Moves.{Ways, subscribes, unsubscribes, disconnects, firsts, replied, delivered}
use Rattle.solo_output.proofs.Taken.{takes_of}
use Rattle.solo_output.proofs.Lasting.{came_from, coded_before, appends_handing}

-- ---- what is neither a PUBLISH nor a PUBACK

pub record Same (one two : SoloState) : Type 0 where
  pub accepted : (slot : ℕ) → accepted_in slot two.groups ≡ accepted_in slot one.groups
  pub handed : two.handed_out ≡ one.handed_out

same : (one two : SoloState) → two.groups ≡ one.groups → two.handed_out ≡ one.handed_out → Same one two
same one two groups handed' = record { accepted = λ slot. ap (accepted_in slot) groups; handed = handed' }

sames : Ways Same
sames =
    record {
      stays = λ solo. same solo solo refl refl;
      goes_on = λ one two three first' later. record { accepted = λ slot. later.accepted slot ∙ first'.accepted slot; handed = later.handed ∙ first'.handed };
      connects = λ connect solo is. record { accepted = λ slot. refl; handed = refl };
      closes = λ solo. record { accepted = λ slot. refl; handed = refl };
      expires = λ expiry solo. record { accepted = λ slot. refl; handed = refl };
      binds = λ share solo none few. record { accepted = λ slot. accepted_bound slot share solo.groups; handed = refl };
      joins = λ slot solo may within. record { accepted = λ slot. refl; handed = refl };
      leaves = λ slot solo is. record { accepted = λ slot. refl; handed = refl };
      parts = λ slot solo is none. record { accepted = λ slot. refl; handed = refl };
      subscribes = λ subscription solo. record { accepted = λ slot. refl; handed = refl };
    }

-- ---- a reply

-- the code of a hand-out was there before, or this packet is its PUBACK
abbrev pub ComesBy : Packet → HandOut → ℕ → Type 0
ComesBy packet one told = (one.outcome ≡ Acknowledged told) ⊎ ((puback : Puback) × (packet ≡ kinds.Puback puback) × (one.outcome ≡ Unacknowledged) × (puback.packet_identifier ≡ one.identifier) × (puback.reason_code ≡ told))

pub record Answers (packet : Packet) (solo : SoloState) (takes : ℕ → List Message) (r : Reply) : Type 0 where
  pub quiet : published (option_to_list r.packet) ≡ []
  pub accepted : (slot : ℕ) → accepted_in slot r.solo.groups ≡ accepted_in slot solo.groups ++ takes slot
  pub codes : (place told : ℕ) (other : HandOut) → slice_get r.solo.handed_out place ≡ Some other → other.outcome ≡ Acknowledged told → (one : HandOut) × (slice_get solo.handed_out place ≡ Some one) × ComesBy packet one told

-- nothing is accepted and nothing settled
unmoved : (packet : Packet) (solo : SoloState) (r : Reply) → published (option_to_list r.packet) ≡ [] → Same solo r.solo → Answers packet solo (λ slot. []) r
unmoved packet solo r quiet is =
    record {
      quiet = quiet;
      accepted = λ slot. is.accepted slot ∙ sym (append-nil (accepted_in slot solo.groups));
      codes = λ place told other there coded. (other, ap (λ (hs : List HandOut). slice_get hs place) (sym is.handed) ∙ there, inl coded);
    }

closed : (packet : Packet) (solo : SoloState) (code : ℕ) → Answers packet solo (λ slot. []) (closing (Some (disconnecting code)) solo)
closed packet solo code = unmoved packet solo (closing (Some (disconnecting code)) solo) refl (sames.closes solo)

publish_quiet : (answer : PublishAnswer) (publish : Publish) (solo : SoloState) → published (option_to_list (publish_reply_as answer publish solo).packet) ≡ []
publish_quiet (publishing.Close code) publish solo = refl
publish_quiet (publishing.Offer identifier) publish solo = refl

publish_codes : (answer : PublishAnswer) (publish : Publish) (solo : SoloState) → (publish_reply_as answer publish solo).solo.handed_out ≡ solo.handed_out
publish_codes (publishing.Close code) publish solo = refl
publish_codes (publishing.Offer identifier) publish solo = (offer_keeps _ _ solo).handed_out

subscribe_quiet : (refusal : Option ℕ) (subscribe : Subscribe) (solo : SoloState) → published (option_to_list (subscribe_reply_as refusal subscribe solo).packet) ≡ []
subscribe_quiet (Some code) subscribe solo = refl
subscribe_quiet None subscribe solo = refl

unsubscribe_quiet : (refusal : Option ℕ) (unsubscribe : Unsubscribe) (solo : SoloState) → published (option_to_list (unsubscribe_reply_as refusal unsubscribe solo).packet) ≡ []
unsubscribe_quiet (Some code) unsubscribe solo = refl
unsubscribe_quiet None unsubscribe solo = refl

disconnect_quiet : (expiry : Option ℕ) (solo : SoloState) → published (option_to_list (disconnect_reply expiry solo).packet) ≡ []
disconnect_quiet None solo = refl
disconnect_quiet (Some expiry) solo =
    cond_both (is_given_expiry expiry solo.terms) (closing (Some (disconnecting 0x82)) solo) (closing None (with_expiry (granted_expiry solo.terms expiry) solo)) (λ r. published (option_to_list r.packet) ≡ []) (λ given. refl) (λ other. refl)

later_answers : (packet : Packet) (solo : SoloState) → Answers packet solo (λ slot. taken_of_packet packet slot solo) (later_reply packet solo)
later_answers (kinds.Publish publish) solo =
    record {
      quiet = publish_quiet (publish_answer publish) publish solo;
      accepted = takes_of (publish_answer publish) publish solo;
      codes = λ place told other there coded. (other, ap (λ (hs : List HandOut). slice_get hs place) (sym (publish_codes (publish_answer publish) publish solo)) ∙ there, inl coded);
    }
later_answers (kinds.Puback puback) solo =
    record {
      quiet = refl;
      accepted = λ slot. sym (append-nil (accepted_in slot solo.groups));
      codes = λ place told other there coded.
          let found = came_from puback.packet_identifier puback.reason_code solo.handed_out place told other there coded in
          (found.0, found.1, ⊎_elim (λ was. inl was) (λ came. inr (puback, refl, came.0, came.1, came.2)) found.2);
    }
later_answers (kinds.Subscribe subscribe) solo =
    unmoved (kinds.Subscribe subscribe) solo (subscribe_reply_as (subscribe_refusal subscribe) subscribe solo) (subscribe_quiet (subscribe_refusal subscribe) subscribe solo) (subscribes Same sames (subscribe_refusal subscribe) subscribe solo)
later_answers (kinds.Unsubscribe unsubscribe) solo =
    unmoved (kinds.Unsubscribe unsubscribe) solo (unsubscribe_reply_as (unsubscribe_refusal unsubscribe) unsubscribe solo) (unsubscribe_quiet (unsubscribe_refusal unsubscribe) unsubscribe solo)
    (unsubscribes Same sames (unsubscribe_refusal unsubscribe) unsubscribe solo)
later_answers kinds.Pingreq solo = unmoved kinds.Pingreq solo _ refl (sames.stays solo)
later_answers (kinds.Disconnect disconnect) solo =
    unmoved (kinds.Disconnect disconnect) solo (disconnect_reply disconnect.properties.session_expiry_interval solo) (disconnect_quiet disconnect.properties.session_expiry_interval solo)
    (disconnects Same sames disconnect.properties.session_expiry_interval solo)
later_answers (kinds.Connect connect) solo = closed (kinds.Connect connect) solo 0x82
later_answers (kinds.Connack connack) solo = closed (kinds.Connack connack) solo 0x82
later_answers (kinds.Suback suback) solo = closed (kinds.Suback suback) solo 0x82
later_answers (kinds.Unsuback unsuback) solo = closed (kinds.Unsuback unsuback) solo 0x82
later_answers kinds.Pingresp solo = closed kinds.Pingresp solo 0x82
later_answers (kinds.Foreign kind) solo = closed (kinds.Foreign kind) solo 0x82
later_answers (kinds.OtherVersion version) solo = closed (kinds.OtherVersion version) solo 0x82
later_answers kinds.WithWill solo = closed kinds.WithWill solo 0x82

attach_quiet : (packet : Packet) (solo : SoloState) → published (option_to_list (attach_reply packet solo).packet) ≡ []
attach_quiet (kinds.Connect connect) solo = refl
attach_quiet (kinds.Publish publish) solo = refl
attach_quiet (kinds.Puback puback) solo = refl
attach_quiet (kinds.Subscribe subscribe) solo = refl
attach_quiet (kinds.Unsubscribe unsubscribe) solo = refl
attach_quiet kinds.Pingreq solo = refl
attach_quiet (kinds.Disconnect disconnect) solo = refl
attach_quiet (kinds.Connack connack) solo = refl
attach_quiet (kinds.Suback suback) solo = refl
attach_quiet (kinds.Unsuback unsuback) solo = refl
attach_quiet kinds.Pingresp solo = refl
attach_quiet (kinds.Foreign kind) solo = refl
attach_quiet (kinds.OtherVersion version) solo = refl
attach_quiet kinds.WithWill solo = refl

first_quiet : (answer : FirstAnswer) (packet : Packet) (solo : SoloState) → published (option_to_list (first_reply_as answer packet solo).packet) ≡ []
first_quiet first.Close packet solo = refl
first_quiet (first.Refuse refusal) packet solo = refl
first_quiet first.Attach packet solo = attach_quiet packet solo

answers_in : (phase : Phase) (packet : Packet) (solo : SoloState) → solo.phase ≡ phase → Answers packet solo (λ slot. taken_in_phase phase packet slot solo) (reply_in phase packet solo)
answers_in Unconnected packet solo is =
    unmoved packet solo (first_reply_as (first_answer None packet) packet solo) (first_quiet (first_answer None packet) packet solo) (firsts Same sames (first_answer None packet) packet solo is)
answers_in Connected packet solo is = later_answers packet solo
answers_in Closed packet solo is = unmoved packet solo _ refl (sames.stays solo)

pub answers : (packet : Packet) (solo : SoloState) → Answers packet solo (λ slot. taken_in_phase solo.phase packet slot solo) (reply packet solo)
answers packet solo = answers_in solo.phase packet solo refl

pub not_both : (told : ℕ) → Unacknowledged ≡ Acknowledged told → ⊥
not_both told e = absurd cc

-- a PUBACK settles only where the client is connected
open_in : (phase : Phase) (puback : Puback) (solo : SoloState) (place told : ℕ) (one other : HandOut) → slice_get solo.handed_out place ≡ Some one → one.outcome ≡ Unacknowledged
    → slice_get (reply_in phase (kinds.Puback puback) solo).solo.handed_out place ≡ Some other → other.outcome ≡ Acknowledged told → phase ≡ Connected
open_in Unconnected puback solo place told one other there none after coded =
    let same' : one ≡ other = same_Some one other (sym there ∙ after) in
    absurd (not_both told (sym none ∙ ap (λ (h : HandOut). h.outcome) same' ∙ coded))
open_in Connected puback solo place told one other there none after coded = refl
open_in Closed puback solo place told one other there none after coded =
    let same' : one ≡ other = same_Some one other (sym there ∙ after) in
    absurd (not_both told (sym none ∙ ap (λ (h : HandOut). h.outcome) same' ∙ coded))

pub is_connected : (puback : Puback) (solo : SoloState) (place told : ℕ) (one other : HandOut) → slice_get solo.handed_out place ≡ Some one → one.outcome ≡ Unacknowledged
    → slice_get (reply (kinds.Puback puback) solo).solo.handed_out place ≡ Some other → other.outcome ≡ Acknowledged told → solo.phase ≡ Connected
is_connected puback solo place told one other there none after coded = open_in solo.phase puback solo place told one other there none after coded

-- ---- what goes out after it

-- nothing is accepted, and no code comes
record Delivers (one two : SoloState) : Type 0 where
  accepted : (slot : ℕ) → accepted_in slot two.groups ≡ accepted_in slot one.groups
  codes : (place told : ℕ) (other : HandOut) → slice_get two.handed_out place ≡ Some other → other.outcome ≡ Acknowledged told → slice_get one.handed_out place ≡ Some other

delivers : Ways Delivers
delivers =
    record {
      stays = λ solo. record { accepted = λ slot. refl; codes = λ place told other there coded. there };
      goes_on = λ one two three first' later.
          record { accepted = λ slot. later.accepted slot ∙ first'.accepted slot; codes = λ place told other there coded. first'.codes place told other (later.codes place told other there coded) coded };
      connects = λ connect solo is. record { accepted = λ slot. refl; codes = λ place told other there coded. there };
      closes = λ solo. record { accepted = λ slot. refl; codes = λ place told other there coded. there };
      expires = λ expiry solo. record { accepted = λ slot. refl; codes = λ place told other there coded. there };
      binds = λ share solo none few. record { accepted = λ slot. accepted_bound slot share solo.groups; codes = λ place told other there coded. there };
      joins = λ slot solo may within. record { accepted = λ slot. refl; codes = λ place told other there coded. there };
      leaves = λ slot solo is. record { accepted = λ slot. refl; codes = λ place told other there coded. there };
      parts = λ slot solo is none. record { accepted = λ slot. refl; codes = λ place told other there coded. there };
      subscribes = λ subscription solo. record { accepted = λ slot. refl; codes = λ place told other there coded. there };
    }

delivering : (solo : SoloState) → Delivers solo (deliver solo).solo
delivering =
    delivered Delivers delivers
    (λ slot message rest solo connected member less waits.
    record { accepted = λ at. refl; codes = λ place told other there coded. coded_before slot message solo place told other there coded })

-- ---- a step

pub step_accepts : (packet : Packet) (solo : SoloState) (slot : ℕ) → accepted_in slot (solo_step packet solo).solo.groups ≡ accepted_in slot solo.groups ++ taken_in_phase solo.phase packet slot solo
step_accepts packet solo slot = (delivering (reply packet solo).solo).accepted slot ∙ (answers packet solo).accepted slot

pub step_codes : (packet : Packet) (solo : SoloState) (place told : ℕ) (other : HandOut) → slice_get (solo_step packet solo).solo.handed_out place ≡ Some other → other.outcome ≡ Acknowledged told
    → (slice_get (reply packet solo).solo.handed_out place ≡ Some other) × ((one : HandOut) × (slice_get solo.handed_out place ≡ Some one) × ComesBy packet one told)
step_codes packet solo place told other there coded =
    let before = (delivering (reply packet solo).solo).codes place told other there coded in
    (before, (answers packet solo).codes place told other before coded)

-- hand-outs are PUBLISH packets, and nothing else that is sent is one
some_published : (discarded : Bool) (message : Message) (subscription : Option ℕ) (identifier : ℕ) → published (packets_unless discarded (job 0 false message subscription identifier)) ≡ packets_unless discarded (job 0 false message subscription identifier)
some_published true message subscription identifier = refl
some_published false message subscription identifier = refl

all_published : (slot : ℕ) (messages : List Message) (solo : SoloState) → published (hand_out slot messages solo).sent ≡ (hand_out slot messages solo).sent
all_published slot [] solo = refl
all_published slot (message ∷ messages) solo =
    let sent = next_packets message solo in
    let later = hand_out slot messages (with_hand_out (next_hand_out slot message solo) solo) in
    let first' : published sent ≡ sent = some_published (is_discarded (terms_in solo) message) message solo.subscription (least_free (unacknowledged solo)) in
    cond_both (has_room solo) (sent_before sent later) (sends_nothing solo) (λ s. published s.sent ≡ s.sent)
    (λ room. filter-append is_publish sent later.sent ∙ (λ i. first' i ++ all_published slot messages (with_hand_out (next_hand_out slot message solo) solo) i))
    (λ full. refl)

published_to : (membership : Membership ℕ) (solo : SoloState) → published (deliver_to membership solo).sent ≡ (deliver_to membership solo).sent
published_to NotMember solo = refl
published_to (Member slot) solo = all_published slot (waiting_in slot solo) solo
published_to (Leaving slot) solo = refl

published_in : (phase : Phase) (solo : SoloState) → published (deliver_in phase solo).sent ≡ (deliver_in phase solo).sent
published_in Unconnected solo = refl
published_in Connected solo = published_to solo.membership solo
published_in Closed solo = refl

pub step_published : (packet : Packet) (solo : SoloState) → published (solo_step packet solo).sent ≡ (deliver (reply packet solo).solo).sent
step_published packet solo =
    let r = reply packet solo in
    filter-append is_publish (option_to_list r.packet) (deliver r.solo).sent
    ∙ ap (λ (l : List Packet). l ++ published (deliver r.solo).sent) (answers packet solo).quiet
    ∙ published_in r.solo.phase r.solo

-- ---- whom hand-outs go to

slice_get_front : (xs ys : List HandOut) (k : ℕ) (x : HandOut) → slice_get xs k ≡ Some x → slice_get (xs ++ ys) k ≡ Some x
slice_get_front [] ys k x there = absurd (none-some x there)
slice_get_front (y ∷ xs) ys zero x there = there
slice_get_front (y ∷ xs) ys (suc k) x there = slice_get_front xs ys k x there

-- those that are new go to a member of their group, each under the client's Subscription Identifier and the least Packet Identifier that is
-- free by then
abbrev pub GoTo : SoloState → SoloState → Type 0
GoTo one two =
    (place : ℕ) (other : HandOut) → length one.handed_out ≤ place → slice_get two.handed_out place ≡ Some other
    → (two.membership ≡ Member other.slot) × (other.subscription ≡ two.subscription) × IsLeastFree (open_identifiers (take place two.handed_out)) other.identifier

past_end : (solo : SoloState) (place : ℕ) (other : HandOut) → length solo.handed_out ≤ place → slice_get solo.handed_out place ≡ Some other → ⊥
past_end solo place other past there = let within = slice_get_within solo.handed_out place other there in absurd (omega (arith, within, past))

take_front : (hand_outs later : List HandOut) → take (length hand_outs) (hand_outs ++ later) ≡ hand_outs
take_front hand_outs later = take-append-le (length hand_outs) hand_outs later (omega arith) ∙ take_all (length hand_outs) hand_outs (omega arith)

-- where it goes out, after a model
abbrev GoesOut : ℕ → SoloState → ℕ → HandOut → Type 0
GoesOut slot behind place other = (other.slot ≡ slot) × (other.subscription ≡ behind.subscription) × IsLeastFree (open_identifiers (take place behind.handed_out)) other.identifier

members_of : (slot : ℕ) (messages : List Message) (solo : SoloState) → solo.phase ≡ Connected → solo.membership ≡ Member slot → waiting_in slot solo ≡ messages
    → (place : ℕ) (other : HandOut) → length solo.handed_out ≤ place → slice_get (hand_out slot messages solo).solo.handed_out place ≡ Some other → GoesOut slot (hand_out slot messages solo).solo place other
members_of slot [] solo connected member waits place other past there = absurd (past_end solo place other past there)
members_of slot (message ∷ messages) solo connected member waits place other past there =
    let next = least_free (unacknowledged solo) in
    let one = next_hand_out slot message solo in
    let behind = with_hand_out one solo in
    let last = (hand_out slot messages behind).solo in
    let rest = waiting_behind one solo message messages waits in
    cond_both (has_room solo) (sent_before (next_packets message solo) (hand_out slot messages behind)) (sends_nothing solo) (λ s. slice_get s.solo.handed_out place ≡ Some other → GoesOut slot s.solo place other)
    (λ room there'.
    ⊎_elim
    (λ (here : place ≡ length solo.handed_out).
    let later = appends_handing slot messages behind connected member rest in
    let all : last.handed_out ≡ solo.handed_out ++ one ∷ later.0 = later.1 ∙ append_assoc solo.handed_out (one ∷ []) later.0 in
    let got : slice_get last.handed_out place ≡ Some one =
    ap (slice_get last.handed_out) here ∙ ap (λ (l : List HandOut). slice_get l (length solo.handed_out)) later.1
    ∙ slice_get_front (solo.handed_out ++ one ∷ []) later.0 (length solo.handed_out) one (slice_get-push_same solo.handed_out one) in
    let same' : one ≡ other = same_Some one other (sym got ∙ there') in
    let before : take place last.handed_out ≡ solo.handed_out = (λ i. take (here i) (all i)) ∙ take_front solo.handed_out (one ∷ later.0) in (
      ap (λ (h : HandOut). h.slot) (sym same'),
      ap (λ (h : HandOut). h.subscription) (sym same') ∙ sym (hand_out_keeps slot messages behind).subscription,
      subst (λ (h : HandOut). IsLeastFree (open_identifiers (take place last.handed_out)) h.identifier) same'
          (subst (λ (l : List HandOut). IsLeastFree (open_identifiers l) next) (sym before) (is_least (unacknowledged solo))),
    ))
    (λ (later : place ≢ length solo.handed_out). members_of slot messages behind connected member rest place other (omega (arith, length_push solo.handed_out one, past, later)) there')
    (cases_eq place (length solo.handed_out)))
    (λ full there'. absurd (past_end solo place other past there'))
    there

go_to : (membership : Membership ℕ) (solo : SoloState) → solo.phase ≡ Connected → solo.membership ≡ membership → GoTo solo (deliver_to membership solo).solo
go_to NotMember solo connected is place other past there = absurd (past_end solo place other past there)
go_to (Member slot) solo connected is place other past there =
    let goes = members_of slot (waiting_in slot solo) solo connected is refl place other past there in
    ((hand_out_keeps slot (waiting_in slot solo) solo).membership ∙ is ∙ ap (λ (n : ℕ). Member n) (sym goes.0), goes.1, goes.2)
go_to (Leaving slot) solo connected is place other past there = absurd (past_end solo place other past there)

go_in : (phase : Phase) (solo : SoloState) → solo.phase ≡ phase → GoTo solo (deliver_in phase solo).solo
go_in Unconnected solo is place other past there = absurd (past_end solo place other past there)
go_in Connected solo is place other past there = go_to solo.membership solo is refl place other past there
go_in Closed solo is place other past there = absurd (past_end solo place other past there)

-- a reply hands nothing out
abbrev AsMany : SoloState → SoloState → Type 0
AsMany one two = length two.handed_out ≡ length one.handed_out

as_many : Ways AsMany
as_many =
    record {
      stays = λ solo. refl;
      goes_on = λ one two three first' later. later ∙ first';
      connects = λ connect solo is. refl;
      closes = λ solo. refl;
      expires = λ expiry solo. refl;
      binds = λ share solo none few. refl;
      joins = λ slot solo may within. refl;
      leaves = λ slot solo is. refl;
      parts = λ slot solo is none. refl;
      subscribes = λ subscription solo. refl;
    }

pub step_goes_to : (packet : Packet) (solo : SoloState) → GoTo solo (solo_step packet solo).solo
step_goes_to packet solo place other past there =
    let r = reply packet solo in
    let many : length r.solo.handed_out ≡ length solo.handed_out =
    replied AsMany as_many (λ slot message s within room. refl) (λ identifier code s. length-map s.handed_out (settled identifier code)) packet solo in
    go_in r.solo.phase r.solo refl place other (omega (arith, many, past)) there

-- ---- after the close

pub closed_step : (packet : Packet) (solo : SoloState) → solo.phase ≡ Closed → solo_step packet solo ≡ sends_nothing solo
closed_step packet solo closed' =
    ap (λ (p : Phase). behind_reply (reply_in p packet solo)) closed' ∙ ap (λ (p : Phase). record { sent = [] ++ (deliver_in p solo).sent; solo = (deliver_in p solo).solo }) closed'

pub closed_steps : (packets : List Packet) (solo : SoloState) → solo.phase ≡ Closed → solo_steps packets solo ≡ sends_nothing solo
closed_steps [] solo closed' = refl
closed_steps (packet ∷ packets) solo closed' =
    ap (λ (t : SoloStep). record { sent = t.sent ++ (solo_steps packets t.solo).sent; solo = (solo_steps packets t.solo).solo }) (closed_step packet solo closed')
    ∙ ap (λ (t : SoloStep). record { sent = [] ++ t.sent; solo = t.solo }) (closed_steps packets solo closed')
