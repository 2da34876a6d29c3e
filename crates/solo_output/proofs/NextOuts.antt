-- What one hand-out makes of a model, and whether there is room for it.
use Rattle.std.proofs.Common.{◌≡◌, ℕ, ◌+◌, ◌<◌, ◌≤◌, Bool, true, false, cond, List, [], ◌∷◌, length, drop, refl, ap, ◌∙◌}
use Rattle.std.proofs.lemmas.Bool.{ltb-true, ltb-false, lt-ltb, le-ltb}
use Rattle.std.proofs.lemmas.List.{length_push}
use Rattle.group_jobs.specs.declared.message.Message.{Message}
use Rattle.solo_output.specs.Groups.{SoloState, HandOut, accepted_in, handed_in, waiting_in, unacknowledged, with_hand_out}
use Rattle.solo_output.specs.HandOuts.{sends_nothing, sent_before, quota, has_room, next_hand_out, next_packets, hand_out}
use Rattle.solo_output.proofs.Lists.{handed_in_push_same, drop_cons}

pub room_from : (solo : SoloState) → length (unacknowledged solo) < quota solo → has_room solo ≡ true
room_from solo less = lt-ltb (length (unacknowledged solo)) (quota solo) less

pub full_from : (solo : SoloState) → quota solo ≤ length (unacknowledged solo) → has_room solo ≡ false
full_from solo most = le-ltb (length (unacknowledged solo)) (quota solo) most

pub less_of : (solo : SoloState) → has_room solo ≡ true → length (unacknowledged solo) < quota solo
less_of solo room = ltb-true (length (unacknowledged solo)) (quota solo) room

pub most_of : (solo : SoloState) → has_room solo ≡ false → quota solo ≤ length (unacknowledged solo)
most_of solo full = ltb-false (length (unacknowledged solo)) (quota solo) full

-- where there is no room, nothing is handed out
pub full_out : (slot : ℕ) (messages : List Message) (solo : SoloState) → has_room solo ≡ false → hand_out slot messages solo ≡ sends_nothing solo
full_out slot [] solo full = refl
full_out slot (message ∷ messages) solo full =
    ap (λ (b : Bool). cond b (sent_before (next_packets message solo) (hand_out slot messages (with_hand_out (next_hand_out slot message solo) solo))) (sends_nothing solo)) full

-- where there is, the next is
pub next_out : (slot : ℕ) (message : Message) (messages : List Message) (solo : SoloState) → has_room solo ≡ true
    → hand_out slot (message ∷ messages) solo ≡ sent_before (next_packets message solo) (hand_out slot messages (with_hand_out (next_hand_out slot message solo) solo))
next_out slot message messages solo room =
    ap (λ (b : Bool). cond b (sent_before (next_packets message solo) (hand_out slot messages (with_hand_out (next_hand_out slot message solo) solo))) (sends_nothing solo)) room

-- what waits after a hand-out
pub waiting_behind : (one : HandOut) (solo : SoloState) (message : Message) (messages : List Message) → waiting_in one.slot solo ≡ message ∷ messages → waiting_in one.slot (with_hand_out one solo) ≡ messages
waiting_behind one solo message messages waits =
    let hand_outs = handed_in one.slot solo.handed_out in
    let accepted = accepted_in one.slot solo.groups in
    let longer : length (handed_in one.slot (with_hand_out one solo).handed_out) ≡ length hand_outs + 1 = ap length (handed_in_push_same solo.handed_out one) ∙ length_push hand_outs one in
    ap (λ (n : ℕ). drop n accepted) longer ∙ (drop_cons (length hand_outs) accepted message messages waits).1
