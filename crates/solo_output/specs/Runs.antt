-- A run: what a client that sends these packets, one after another, brings about on a new server; and what of it is accepted, sent and settled
-- (sections 3.3.2, 3.4.2.1, 4.3.2, 4.6 and 4.7).
use Rattle.std.specs.Prelude.{◌≡◌, ◌≢◌, ℕ, ◌==◌, Bool, true, false, not, if◌then◌else◌, List, [], ◌∷◌, ◌++◌, map, filter, slice_get, Some}
use Rattle.std.specs.List.{list_any, zip}
use Rattle.mqtt_packet.specs.declared.packet.Packet.{Packet}
use Rattle.mqtt_packet.specs.declared.packet.Packet.TheVariants as kinds
use Rattle.mqtt_packet.specs.declared.packet.Puback.{Puback}
use Rattle.mqtt_packet.specs.declared.packet.Publish.{Publish}
use Rattle.group_jobs.specs.declared.message.Message.{Message}
use Rattle.session_desk.specs.declared.session.Membership.{Membership}
use Rattle.session_desk.specs.declared.session.Membership.TheVariants.{NotMember, Member, Leaving}
use Rattle.conn_rules.specs.declared.publishing.PublishAnswer.{PublishAnswer}
use Rattle.conn_rules.specs.declared.publishing.PublishAnswer.TheVariants as answers
use Rattle.conn_rules.specs.Packets.{job}
use Rattle.conn_rules.specs.Publishing.{publish_answer, message_of}
use Rattle.conn_rules.specs.declared.setup.Setup.{Setup}
use Rattle.solo_output.specs.Groups.{SoloState, Phase, HandOut, opening, was_sent}
use Rattle.solo_output.specs.Groups.Outcome.{Unacknowledged, Discarded}
use Rattle.solo_output.specs.Groups.Phase.{Unconnected, Connected, Closed}
use Rattle.solo_output.specs.HandOuts.{SoloStep}
use Rattle.solo_output.specs.Publishing.{is_full, matching}
use Rattle.solo_output.specs.Replies.{solo_step, solo_steps}

-- what the client is sent for these packets, and the model after them
abbrev pub run_of : Setup → List Packet → SoloStep
run_of setup packets = solo_steps packets (opening setup.capacity setup.max_inflight setup.groups)

-- ---- what is accepted

-- the slots of the groups that take a message of this topic: those whose filter matches (4.7) and that are not full (profile)
abbrev pub takers : List ℕ → SoloState → List ℕ
takers topic solo = filter (λ slot. not (is_full slot solo)) (matching topic solo)

-- the message of a PUBLISH that is offered, where the group of this slot takes it
abbrev pub taken_of_offer : PublishAnswer → ℕ → Publish → SoloState → List Message
taken_of_offer (answers.Close code) slot publish solo = []
taken_of_offer (answers.Offer identifier) slot publish solo =
    if list_any (λ taker. taker == slot) (takers publish.topic solo) then message_of 0 publish ∷ [] else []

-- what it takes of a packet of a client that is connected
abbrev pub taken_of_packet : Packet → ℕ → SoloState → List Message
taken_of_packet (kinds.Publish publish) slot solo = taken_of_offer (publish_answer publish) slot publish solo
taken_of_packet _ slot solo = []

abbrev pub taken_in_phase : Phase → Packet → ℕ → SoloState → List Message
taken_in_phase Unconnected packet slot solo = []
taken_in_phase Connected packet slot solo = taken_of_packet packet slot solo
taken_in_phase Closed packet slot solo = []

-- the messages that the group of this slot takes of these packets, in order, each in its own step
abbrev pub taken : List Packet → ℕ → SoloState → List Message
taken [] slot solo = []
taken (packet ∷ packets) slot solo = taken_in_phase solo.phase packet slot solo ++ taken packets slot (solo_step packet solo).solo

-- ---- what is sent

abbrev pub is_publish : Packet → Bool
is_publish (kinds.Publish publish) = true
is_publish _ = false

-- the PUBLISH packets among these, in order
abbrev pub published : List Packet → List Packet
published packets = filter is_publish packets

-- those of the hand-outs that were sent
abbrev pub sent_of : List HandOut → List HandOut
sent_of hand_outs = filter was_sent hand_outs

-- the PUBLISH packets of the hand-outs of this slot, where the n-th packet is that of the n-th hand-out that was sent
abbrev pub sent_in : ℕ → List Packet → List HandOut → List Packet
sent_in slot packets hand_outs = map (λ pair. pair.0) (filter (λ pair. pair.1.slot == slot) (zip packets (sent_of hand_outs)))

-- messages as they go out (DUP 0), the first under the identifiers of the first hand-out, and so on, as far as both lists go; what is discarded does
-- not go out
abbrev pub jobs_of : List Message → List HandOut → List Packet
jobs_of messages hand_outs = map (λ pair. job 0 false pair.0 pair.1.subscription pair.1.identifier) (filter (λ pair. was_sent pair.1) (zip messages hand_outs))

-- ---- whose a hand-out is, and what settles it

-- a client is a member of the group of this slot, or is leaving it
abbrev pub IsInGroup : Membership ℕ → ℕ → Type 0
IsInGroup NotMember slot = ⊥
IsInGroup (Member own) slot = own ≡ slot
IsInGroup (Leaving own) slot = own ≡ slot

-- a hand-out as it was, or settled since by a PUBACK
pub record IsStill (before after : HandOut) : Type 0 where
  pub slot : after.slot ≡ before.slot
  pub subscription : after.subscription ≡ before.subscription
  pub identifier : after.identifier ≡ before.identifier
  pub for_good : before.outcome ≢ Unacknowledged → after.outcome ≡ before.outcome
  pub at_once : after.outcome ≡ Discarded → before.outcome ≡ Discarded

-- 4.3.2: a PUBACK of this Reason Code came under the identifier of the hand-out at this place while that was unacknowledged
pub record IsSettledBy (setup : Setup) (packets : List Packet) (place code : ℕ) : Type 0 where
  pub earlier : List Packet
  pub puback : Puback
  pub later : List Packet
  pub came : packets ≡ earlier ++ kinds.Puback puback ∷ later
  pub connected : (run_of setup earlier).solo.phase ≡ Connected
  pub hand_out : HandOut
  pub there : slice_get (run_of setup earlier).solo.handed_out place ≡ Some hand_out
  pub unacknowledged : hand_out.outcome ≡ Unacknowledged
  pub its : puback.packet_identifier ≡ hand_out.identifier
  pub as_told : puback.reason_code ≡ code
