-- What has become of the messages of one client's run, as lists: those that each group accepted, and the hand-outs (sections 4.3.2, 4.4 and 4.8.2).
use Rattle.std.specs.Prelude.{ℕ, zero, suc, ◌==◌, ◌&&◌, nat_lt, Bool, true, false, not, if◌then◌else◌, List, [], ◌∷◌, ◌++◌, map, filter, length, drop, slice_index_or, Option, None}
use Rattle.mqtt_topic.specs.Names.{Share}
use Rattle.group_jobs.specs.declared.message.Message.{Message}
use Rattle.conn_rules.specs.declared.terms.Terms.{Terms}
use Rattle.session_desk.specs.declared.session.Membership.{Membership}
use Rattle.session_desk.specs.declared.session.Membership.TheVariants.{NotMember}

-- a share that is bound, and the messages that its group accepted, in order
pub record Bound : Type 0 where
  pub share : Share
  pub accepted : List Message

-- what became of a hand-out: no PUBACK came, or one came with this Reason Code (3.4.2.1); or it was not sent, but discarded (3.1.2.11.4, 3.3.2.3.3)
pub data Outcome : Type 0 where
  Unacknowledged : Outcome
  Acknowledged : ℕ → Outcome
  Discarded : Outcome

-- the next message of the group of this slot was handed to the client, under this Subscription Identifier, or none (3.3.2.3.8), and this Packet
-- Identifier; one that is discarded leaves its Packet Identifier to the next
pub record HandOut : Type 0 where
  pub slot : ℕ
  pub subscription : Option ℕ
  pub identifier : ℕ
  pub outcome : Outcome

-- how far the connection has come
pub data Phase : Type 0 where
  Unconnected : Phase
  Connected : Phase
  Closed : Phase

-- What the client asked for when it connected; how many messages may wait in each group; how many may be unacknowledged, whatever its Receive
-- Maximum; the groups, that of slot n at place n; the slot of the group whose member the client is, if it is one; the Subscription Identifier of
-- its last SUBSCRIBE that was granted, if that had one; and the hand-outs, in order: the first of a slot is that of the first message of its group,
-- and so on.
pub record SoloState : Type 0 where
  pub phase : Phase
  pub terms : Terms
  pub capacity : ℕ
  pub max_inflight : ℕ
  pub groups : List Bound
  pub membership : Membership ℕ
  pub subscription : Option ℕ
  pub handed_out : List HandOut

-- 3.1.2: what holds before a CONNECT: no keep alive, the greatest Receive Maximum, packets of any size, a session that ends with its
-- connection, and no limit of its expiry
abbrev pub default_terms : Terms
default_terms = record { receive_maximum = 65535; session_expiry_interval = 0; keep_alive = 0; maximum_packet_size = None; max_expiry = None }

-- a share, whose group accepted nothing yet
abbrev pub bound : Share → Bound
bound share = record { share = share; accepted = [] }

-- before the first packet, with these shares bound
abbrev pub opening : ℕ → ℕ → List Share → SoloState
opening capacity max_inflight shares =
    record { phase = Unconnected; terms = default_terms; capacity = capacity; max_inflight = max_inflight; groups = map bound shares; membership = NotMember; subscription = None; handed_out = [] }

abbrev pub shares_of : List Bound → List Share
shares_of groups = map (λ group. group.share) groups

-- what the group of this slot accepted; where there is none, nothing
abbrev pub accepted_in : ℕ → List Bound → List Message
accepted_in slot groups = slice_index_or (map (λ group. group.accepted) groups) slot []

-- the group of this slot accepts one message more
abbrev pub accepting : ℕ → Message → List Bound → List Bound
accepting slot message [] = []
accepting zero message (group ∷ groups) = record group { accepted = group.accepted ++ message ∷ [] } ∷ groups
accepting (suc slot) message (group ∷ groups) = group ∷ accepting slot message groups

-- the hand-outs of this slot
abbrev pub handed_in : ℕ → List HandOut → List HandOut
handed_in slot hand_outs = filter (λ hand_out. hand_out.slot == slot) hand_outs

-- accepted by the group of this slot and not handed out, the oldest first
abbrev pub waiting_in : ℕ → SoloState → List Message
waiting_in slot solo = drop (length (handed_in slot solo.handed_out)) (accepted_in slot solo.groups)

-- a hand-out was discarded
abbrev pub discards : Outcome → Bool
discards Unacknowledged = false
discards (Acknowledged code) = false
discards Discarded = true

-- it was sent
abbrev pub was_sent : HandOut → Bool
was_sent hand_out = not (discards hand_out.outcome)

-- an outcome may still change: the hand-out was sent, and no PUBACK came
abbrev pub waits_for_puback : Outcome → Bool
waits_for_puback Unacknowledged = true
waits_for_puback (Acknowledged code) = false
waits_for_puback Discarded = false

-- so of a hand-out
abbrev pub is_open : HandOut → Bool
is_open hand_out = waits_for_puback hand_out.outcome

-- the identifiers of the hand-outs that wait for a PUBACK, in order
abbrev pub open_identifiers : List HandOut → List ℕ
open_identifiers hand_outs = map (λ hand_out. hand_out.identifier) (filter is_open hand_outs)

abbrev pub unacknowledged : SoloState → List ℕ
unacknowledged solo = open_identifiers solo.handed_out

-- a PUBACK settles the unacknowledged hand-out of its identifier, if there is one
abbrev pub settled : ℕ → ℕ → HandOut → HandOut
settled identifier code hand_out =
    if is_open hand_out && (hand_out.identifier == identifier) then record hand_out { outcome = Acknowledged code } else hand_out

-- a Reason Code below 80 hex acknowledges, another refuses (2.4)
abbrev pub acknowledges : Outcome → Bool
acknowledges Unacknowledged = false
acknowledges (Acknowledged code) = nat_lt code 128
acknowledges Discarded = false

abbrev pub refuses : Outcome → Bool
refuses Unacknowledged = false
refuses (Acknowledged code) = not (nat_lt code 128)
refuses Discarded = false

-- what a model becomes

abbrev pub with_phase : Phase → SoloState → SoloState
with_phase phase solo = record solo { phase = phase }

abbrev pub with_membership : Membership ℕ → SoloState → SoloState
with_membership membership solo = record solo { membership = membership }

abbrev pub with_subscription : Option ℕ → SoloState → SoloState
with_subscription subscription solo = record solo { subscription = subscription }

abbrev pub with_message : ℕ → Message → SoloState → SoloState
with_message slot message solo = record solo { groups = accepting slot message solo.groups }

abbrev pub with_share : Share → SoloState → SoloState
with_share share solo = record solo { groups = solo.groups ++ bound share ∷ [] }

abbrev pub with_puback : ℕ → ℕ → SoloState → SoloState
with_puback identifier code solo = record solo { handed_out = map (settled identifier code) solo.handed_out }

abbrev pub with_hand_out : HandOut → SoloState → SoloState
with_hand_out hand_out solo = record solo { handed_out = solo.handed_out ++ hand_out ∷ [] }
