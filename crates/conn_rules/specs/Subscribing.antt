-- What becomes of a SUBSCRIBE and of an UNSUBSCRIBE before any session or group is asked (sections 3.8 to 3.11).
use Rattle.std.specs.Prelude.{ℕ, nat_lt, nat_eq, ◌&&◌, codes, Bool, true, false, if◌then◌else◌, List, length, Option, Some, None, Result, Ok, Err}
use Rattle.std.specs.List.{list_any, starts_with}
use Rattle.mqtt_packet.specs.declared.packet.QoS.{QoS}
use Rattle.mqtt_packet.specs.declared.packet.QoS.TheVariants.{AtMostOnce, AtLeastOnce, ExactlyOnce}
use Rattle.mqtt_packet.specs.declared.packet.Subscribe.{Subscribe}
use Rattle.mqtt_packet.specs.declared.packet.Subscription.{Subscription}
use Rattle.mqtt_packet.specs.declared.packet.Unsubscribe.{Unsubscribe}
use Rattle.mqtt_topic.specs.declared.error.TopicError.{TopicError}
use Rattle.mqtt_topic.specs.declared.error.TopicError.TheVariants.{NotShared}
use Rattle.mqtt_topic.specs.Names.{Share, share_of, filter_of}
use Rattle.conn_rules.specs.declared.subscribing.EntryAnswer.{EntryAnswer}
use Rattle.conn_rules.specs.declared.subscribing.EntryAnswer.TheVariants.{Refuse, Join}

-- how many entries there are at most (profile)
abbrev pub most_entries : ℕ
most_entries = 32

-- 3.8.3.1: an entry asks a shared subscription for No Local, which is a Protocol Error
abbrev pub is_local_share : Subscription → Bool
is_local_share entry = entry.options.no_local && starts_with nat_eq entry.filter (codes "$share/")

-- the Reason Code with which a SUBSCRIBE closes the connection, if it does: too many entries are the profile's
abbrev pub subscribe_refusal : Subscribe → Option ℕ
subscribe_refusal s =
    if nat_lt most_entries (length s.subscriptions) then Some 0x83
    else (if list_any is_local_share s.subscriptions then Some 0x82 else None)

abbrev pub unsubscribe_refusal : Unsubscribe → Option ℕ
unsubscribe_refusal u = if nat_lt most_entries (length u.filters) then Some 0x83 else None

-- 3.8.3.1: a QoS is asked for at which packets are acknowledged
abbrev pub asks_acknowledged : QoS → Bool
asks_acknowledged AtMostOnce = false
asks_acknowledged AtLeastOnce = true
asks_acknowledged ExactlyOnce = true

-- a filter, and a text that is none
abbrev pub filter_code : Result (List ℕ) TopicError → ℕ
filter_code (Ok filter) = 0x83
filter_code (Err refusal) = 0x8F

-- the Reason Code of a text that is no share: what is a filter is not served unless it is shared, and what is neither is no valid
-- Topic Filter (profile)
abbrev pub refused_code : TopicError → List ℕ → ℕ
refused_code NotShared text = filter_code (filter_of text)
refused_code _ text = 0x8F

-- a share, where the entry is served, is joined
abbrev pub share_answer : Bool → Result Share TopicError → List ℕ → EntryAnswer
share_answer true (Ok share) text = Join share
share_answer false (Ok share) text = Refuse 0x83
share_answer served (Err refusal) text = Refuse (refused_code refusal text)

-- an entry, of several refusals the first: a text that is no filter and no share (8F), a filter that is not shared and QoS 0 (83, profile)
abbrev pub entry_answer : Subscription → EntryAnswer
entry_answer entry = share_answer (asks_acknowledged entry.options.maximum_qos) (share_of entry.filter) entry.filter
