-- The replies to a SUBSCRIBE and to an UNSUBSCRIBE (sections 3.8 to 3.11).
use Rattle.std.specs.Prelude.{ℕ, ◌==◌, nat_lt, Bool, if◌then◌else◌, List, [], ◌∷◌, length, Option, Some, None, Result, Ok, Err}
use Rattle.mqtt_packet.specs.declared.packet.Subscribe.{Subscribe}
use Rattle.mqtt_packet.specs.declared.packet.Subscription.{Subscription}
use Rattle.mqtt_packet.specs.declared.packet.Unsubscribe.{Unsubscribe}
use Rattle.mqtt_topic.specs.declared.error.TopicError.{TopicError}
use Rattle.mqtt_topic.specs.Names.{Share, share_of}
use Rattle.mqtt_topic.specs.Routes.{most_routes, slot_of}
use Rattle.session_desk.specs.declared.session.Membership.{Membership}
use Rattle.session_desk.specs.declared.session.Membership.TheVariants.{NotMember, Member, Leaving}
use Rattle.conn_rules.specs.declared.subscribing.EntryAnswer.{EntryAnswer}
use Rattle.conn_rules.specs.declared.subscribing.EntryAnswer.TheVariants as answers
use Rattle.conn_rules.specs.Subscribing.{entry_answer, subscribe_refusal, unsubscribe_refusal}
use Rattle.conn_rules.specs.Packets.{disconnect, suback, unsuback}
use Rattle.conn_supply.specs.Subscribing.{subscription_after}
use Rattle.solo_output.specs.Groups.{SoloState, shares_of, with_membership, with_share, with_subscription}
use Rattle.solo_output.specs.Publishing.{Reply, answering, closing}

-- the Reason Code of one entry, and the model after it
pub record Coded : Type 0 where
  pub code : ℕ
  pub solo : SoloState

abbrev pub coded : ℕ → SoloState → Coded
coded code solo = record { code = code; solo = solo }

-- who is no member becomes one of the share's group; a share that is not bound is bound to the next slot, and where there is none, 97
abbrev pub enter : Option ℕ → Share → SoloState → Coded
enter (Some slot) share solo = coded 1 (with_membership (Member slot) solo)
enter None share solo =
    if nat_lt (length solo.groups) most_routes then coded 1 (with_membership (Member (length solo.groups)) (with_share share solo)) else coded 0x97 solo

-- the slot that was found is this one
abbrev pub is_slot : ℕ → Option ℕ → Bool
is_slot slot None = Bool.false
is_slot slot (Some found) = found == slot

-- whoever is a member of this very group is one from then on, also where he was leaving; a member of another is refused by 97
abbrev pub stay : ℕ → Option ℕ → SoloState → Coded
stay slot found solo = if is_slot slot found then coded 1 (with_membership (Member slot) solo) else coded 0x97 solo

-- a client is a member of one group at a time (profile)
abbrev pub join_as : Membership ℕ → Option ℕ → Share → SoloState → Coded
join_as NotMember found share solo = enter found share solo
join_as (Member slot) found share solo = stay slot found solo
join_as (Leaving slot) found share solo = stay slot found solo

abbrev pub join : Share → SoloState → Coded
join share solo = join_as solo.membership (slot_of share.text (shares_of solo.groups)) share solo

-- an entry of a SUBSCRIBE
abbrev pub entry_reply : EntryAnswer → SoloState → Coded
entry_reply (answers.Refuse code) solo = coded code solo
entry_reply (answers.Join share) solo = join share solo

-- a member leaves by the very text of its share
abbrev pub leave_if : ℕ → Option ℕ → SoloState → Coded
leave_if slot found solo = if is_slot slot found then coded 0 (with_membership (Leaving slot) solo) else coded 0x11 solo

-- an entry of an UNSUBSCRIBE: 11 where the client is no member of that share (3.11.3)
abbrev pub leave_as : Membership ℕ → Result Share TopicError → SoloState → Coded
leave_as (Member slot) (Ok share) solo = leave_if slot (slot_of share.text (shares_of solo.groups)) solo
leave_as (Member slot) (Err refusal) solo = coded 0x11 solo
leave_as NotMember parsed solo = coded 0x11 solo
leave_as (Leaving slot) parsed solo = coded 0x11 solo

abbrev pub leave : List ℕ → SoloState → Coded
leave text solo = leave_as solo.membership (share_of text) solo

-- a code for each entry, and the model after them
pub record AllCoded : Type 0 where
  pub codes : List ℕ
  pub solo : SoloState

abbrev pub coded_first : ℕ → AllCoded → AllCoded
coded_first code later = record later { codes = code ∷ later.codes }

-- the entries in their order: each sees what the earlier ones did
abbrev pub join_all : List Subscription → SoloState → AllCoded
join_all [] solo = record { codes = []; solo = solo }
join_all (entry ∷ entries) solo =
    coded_first (entry_reply (entry_answer entry) solo).code
    (join_all entries (entry_reply (entry_answer entry) solo).solo)

abbrev pub leave_all : List (List ℕ) → SoloState → AllCoded
leave_all [] solo = record { codes = []; solo = solo }
leave_all (text ∷ texts) solo = coded_first (leave text solo).code (leave_all texts (leave text solo).solo)

abbrev pub subscribed : ℕ → AllCoded → Reply
subscribed identifier all = answering (suback identifier all.codes) all.solo

abbrev pub unsubscribed : ℕ → AllCoded → Reply
unsubscribed identifier all = answering (unsuback identifier all.codes) all.solo

-- 3.8.4: a SUBSCRIBE with an entry that is answered 01 gives the client its Subscription Identifier, or takes that which it had
abbrev pub identified : Option ℕ → AllCoded → AllCoded
identified identifier all = record all { solo = with_subscription (subscription_after all.codes identifier all.solo.subscription) all.solo }

-- a SUBSCRIBE closes the connection, or is answered by a SUBACK with a code for each entry
abbrev pub subscribe_reply_as : Option ℕ → Subscribe → SoloState → Reply
subscribe_reply_as (Some code) subscribe solo = closing (Some (disconnect code)) solo
subscribe_reply_as None subscribe solo =
    subscribed subscribe.packet_identifier (identified subscribe.properties.subscription_identifier (join_all subscribe.subscriptions solo))

abbrev pub subscribe_reply : Subscribe → SoloState → Reply
subscribe_reply subscribe solo = subscribe_reply_as (subscribe_refusal subscribe) subscribe solo

-- an UNSUBSCRIBE closes the connection, or is answered by an UNSUBACK with a code for each filter
abbrev pub unsubscribe_reply_as : Option ℕ → Unsubscribe → SoloState → Reply
unsubscribe_reply_as (Some code) unsubscribe solo = closing (Some (disconnect code)) solo
unsubscribe_reply_as None unsubscribe solo = unsubscribed unsubscribe.packet_identifier (leave_all unsubscribe.filters solo)

abbrev pub unsubscribe_reply : Unsubscribe → SoloState → Reply
unsubscribe_reply unsubscribe solo = unsubscribe_reply_as (unsubscribe_refusal unsubscribe) unsubscribe solo
