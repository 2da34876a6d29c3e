-- Which messages go out after a reply, and under which identifiers (sections 2.2.1, 3.1.2.11.4, 3.3.2.3.3, 3.3.2.3.8, 4.6, 4.8.2 and 4.9).
use Rattle.std.specs.Prelude.{ℕ, zero, suc, ◌+◌, ◌==◌, nat_lt, min, Bool, true, false, if◌then◌else◌, List, [], ◌∷◌, ◌++◌, length}
use Rattle.std.specs.List.{list_any}
use Rattle.mqtt_packet.specs.declared.packet.Packet.{Packet}
use Rattle.group_jobs.specs.declared.message.Message.{Message}
use Rattle.session_desk.specs.declared.session.Membership.{Membership}
use Rattle.session_desk.specs.declared.session.Membership.TheVariants.{NotMember, Member, Leaving}
use Rattle.conn_rules.specs.declared.hand_outs.HandOutTerms.{HandOutTerms}
use Rattle.conn_rules.specs.HandOuts.{is_discarded}
use Rattle.conn_rules.specs.Packets.{job}
use Rattle.solo_output.specs.Groups.{SoloState, Phase, HandOut, Outcome, unacknowledged, waiting_in, with_hand_out, with_membership}
use Rattle.solo_output.specs.Groups.Outcome.{Unacknowledged, Discarded}
use Rattle.solo_output.specs.Groups.Phase.{Unconnected, Connected, Closed}

-- the most hand-outs that are unacknowledged at once: the Receive Maximum, cut to 256 (3.1.2.11.3, profile)
abbrev pub quota : SoloState → ℕ
quota solo = min solo.terms.receive_maximum 256

-- the quota has room for one more
abbrev pub has_room : SoloState → Bool
has_room solo = nat_lt (length (unacknowledged solo)) (quota solo)

-- the first identifier from this one on that is not used, where so many are looked at
abbrev pub free_from : ℕ → ℕ → List ℕ → ℕ
free_from zero identifier used = identifier
free_from (suc more) identifier used = if list_any (λ other. other == identifier) used then free_from more (identifier + 1) used else identifier

-- the least identifier from 1 on that none of these is: there is one among one more than they are
abbrev pub least_free : List ℕ → ℕ
least_free used = free_from (length used) 1 used

-- what the client is sent its messages under, all at the moment 0: its Subscription Identifier (3.3.2.3.8), and the Maximum Packet Size of the CONNECT, if that
-- named one (3.1.2.11.4)
abbrev pub terms_in : SoloState → HandOutTerms
terms_in solo = record { at = 0; subscription = solo.subscription; maximum_packet_size = solo.terms.maximum_packet_size }

-- packets that are sent, and the model after them
pub record SoloStep : Type 0 where
  pub sent : List Packet
  pub solo : SoloState

abbrev pub sends_nothing : SoloState → SoloStep
sends_nothing solo = record { sent = []; solo = solo }

abbrev pub sent_before : List Packet → SoloStep → SoloStep
sent_before packets later = record later { sent = packets ++ later.sent }

-- what is not to be sent is discarded as soon as it is handed out (profile)
abbrev pub outcome_of : Bool → Outcome
outcome_of true = Discarded
outcome_of false = Unacknowledged

-- the next hand-out of this slot has the client's Subscription Identifier, and the least Packet Identifier that is free
abbrev pub next_hand_out : ℕ → Message → SoloState → HandOut
next_hand_out slot message solo =
    record { slot = slot; subscription = solo.subscription; identifier = least_free (unacknowledged solo); outcome = outcome_of (is_discarded (terms_in solo) message) }

-- a packet is sent, unless its message is discarded
abbrev pub packets_unless : Bool → Packet → List Packet
packets_unless true packet = []
packets_unless false packet = packet ∷ []

-- what is sent of it
abbrev pub next_packets : Message → SoloState → List Packet
next_packets message solo = packets_unless (is_discarded (terms_in solo) message) (job 0 false message solo.subscription (least_free (unacknowledged solo)))

-- while the quota has room, the messages that wait in a group are handed out, the oldest first
abbrev pub hand_out : ℕ → List Message → SoloState → SoloStep
hand_out slot [] solo = sends_nothing solo
hand_out slot (message ∷ messages) solo =
    if has_room solo
    then sent_before (next_packets message solo) (hand_out slot messages (with_hand_out (next_hand_out slot message solo) solo))
    else sends_nothing solo

-- who leaves is handed nothing, and is no member once nothing is unacknowledged
abbrev pub left_with : ℕ → List ℕ → Membership ℕ
left_with slot [] = NotMember
left_with slot (identifier ∷ identifiers) = Leaving slot

abbrev pub deliver_to : Membership ℕ → SoloState → SoloStep
deliver_to NotMember solo = sends_nothing solo
deliver_to (Member slot) solo = hand_out slot (waiting_in slot solo) solo
deliver_to (Leaving slot) solo = sends_nothing (with_membership (left_with slot (unacknowledged solo)) solo)

-- only a connection that goes on is handed anything
abbrev pub deliver_in : Phase → SoloState → SoloStep
deliver_in Unconnected solo = sends_nothing solo
deliver_in Connected solo = deliver_to solo.membership solo
deliver_in Closed solo = sends_nothing solo

abbrev pub deliver : SoloState → SoloStep
deliver solo = deliver_in solo.phase solo
