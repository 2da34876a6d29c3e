-- What a group accepts of a packet, and what its publisher hears of it.
use Rattle.std.proofs.Common.{◌≡◌, ◌≢◌, ℕ, zero, suc, ◌+◌, ◌<◌, ◌≤◌, ◌==◌, ◌&&◌, ◌||◌, nat_le, not, Bool, true, false, cond, List, [], ◌∷◌, ◌++◌, length, drop, slice_index_or, Some, refl, sym, ap, ◌∙◌, subst, arith, zero-add, eq-eqb, ne_eqb}
use Rattle.std.specs.List.{filter, list_any}
use Rattle.std.proofs.lemmas.Bool.{cond_both}
use Rattle.std.proofs.lemmas.List.{append-nil, length-map}
use Rattle.mqtt_packet.specs.declared.packet.Packet.TheVariants as kinds
use Rattle.mqtt_packet.specs.declared.packet.Publish.{Publish}
use Rattle.mqtt_topic.specs.Routes.{routed, places_of}
use Rattle.group_jobs.specs.declared.message.Message.{Message}
use Rattle.local_group.specs.Groups.{life}
use Rattle.conn_rules.specs.declared.publishing.PublishAnswer.{PublishAnswer}
use Rattle.conn_rules.specs.declared.publishing.PublishAnswer.TheVariants as publishing
use Rattle.conn_rules.specs.Packets.{puback}
use Rattle.conn_rules.specs.Publishing.{publish_answer, puback_code, message_of}
use Rattle.solo_output.specs.Groups.{SoloState, Phase, shares_of, accepted_in, handed_in, with_message}
use Rattle.solo_output.specs.Groups.Phase.{Connected}
use Rattle.solo_output.specs.Publishing.{is_full, matching, offer_to, taken_too, publish_reply_as}
use Rattle.solo_output.specs.Replies.{reply, reply_in}
use Rattle.solo_output.specs.Runs.{takers, taken_of_offer}
use Rattle.solo_output.proofs.Brokers.{accepted_same, accepted_other, length-accepting, length-shares}

-- a message in another group fills none
full_other : (slot at : ℕ) (message : Message) (solo : SoloState) → at ≢ slot → is_full at (with_message slot message solo) ≡ is_full at solo
full_other slot at message solo other =
    ap (λ (l : List Message). nat_le life (length l) || nat_le solo.capacity (length (drop (length (handed_in at solo.handed_out)) l))) (accepted_other slot at message solo.groups other)

-- the slots that come before these get nothing
earlier_kept : (from : ℕ) (bits : List Bool) (message : Message) (solo : SoloState) (at : ℕ) → at < from → accepted_in at (offer_to (places_of from bits) message solo).solo.groups ≡ accepted_in at solo.groups
earlier_kept from [] message solo at less = refl
earlier_kept from (false ∷ bits) message solo at less = earlier_kept (from + 1) bits message solo at (omega arith)
earlier_kept from (true ∷ bits) message solo at less =
    let slots = places_of (from + 1) bits in
    let next = with_message from message solo in
    cond_both (is_full from solo) (offer_to slots message solo) (taken_too (offer_to slots message next)) (λ offered. accepted_in at offered.solo.groups ≡ accepted_in at solo.groups)
    (λ full. earlier_kept (from + 1) bits message solo at (omega arith))
    (λ room. earlier_kept (from + 1) bits message next at (omega arith) ∙ accepted_other from at message solo.groups (λ e. absurd (omega (arith, e, less))))

-- each slot whose bit is set gets the message, where its group is not full
abbrev taken_if : Bool → Message → List Message
taken_if b message = cond b (message ∷ []) []

offered_at : (k from at : ℕ) (bits : List Bool) (message : Message) (solo : SoloState) → at ≡ from + k → from + length bits ≤ length solo.groups
    → accepted_in at (offer_to (places_of from bits) message solo).solo.groups ≡ accepted_in at solo.groups ++ taken_if (slice_index_or bits k false && not (is_full at solo)) message
offered_at k from at [] message solo is few = sym (append-nil (accepted_in at solo.groups))
offered_at zero from at (false ∷ bits) message solo is few =
    earlier_kept (from + 1) bits message solo at (omega (arith, is)) ∙ sym (append-nil (accepted_in at solo.groups))
offered_at (suc k) from at (false ∷ bits) message solo is few = offered_at k (from + 1) at bits message solo (omega (arith, is)) (omega arith)
offered_at zero from at (true ∷ bits) message solo is few =
    let here : at ≡ from = omega (arith, is) in
    let slots = places_of (from + 1) bits in
    let next = with_message from message solo in
    subst (λ (n : ℕ). accepted_in n (offer_to (from ∷ slots) message solo).solo.groups ≡ accepted_in n solo.groups ++ taken_if (not (is_full n solo)) message) (sym here)
    (cond_both (is_full from solo) (offer_to slots message solo) (taken_too (offer_to slots message next)) (λ offered. accepted_in from offered.solo.groups ≡ accepted_in from solo.groups ++ taken_if (not (is_full from solo)) message)
    (λ full.
    earlier_kept (from + 1) bits message solo from (omega arith)
    ∙ sym (append-nil (accepted_in from solo.groups))
    ∙ ap (λ (b : Bool). accepted_in from solo.groups ++ taken_if (not b) message) (sym full))
    (λ room.
    earlier_kept (from + 1) bits message next from (omega arith)
    ∙ accepted_same from message solo.groups (omega arith)
    ∙ ap (λ (b : Bool). accepted_in from solo.groups ++ taken_if (not b) message) (sym room)))
offered_at (suc k) from at (true ∷ bits) message solo is few =
    let slots = places_of (from + 1) bits in
    let next = with_message from message solo in
    let other : at ≢ from = λ e. absurd (omega (arith, e, is)) in
    cond_both (is_full from solo) (offer_to slots message solo) (taken_too (offer_to slots message next))
    (λ offered. accepted_in at offered.solo.groups ≡ accepted_in at solo.groups ++ taken_if (slice_index_or bits k false && not (is_full at solo)) message)
    (λ full. offered_at k (from + 1) at bits message solo (omega (arith, is)) (omega arith))
    (λ room.
    offered_at k (from + 1) at bits message next (omega (arith, is)) (omega (arith, length-accepting from message solo.groups))
    ∙ (λ i. accepted_other from at message solo.groups other i ++ taken_if (slice_index_or bits k false && not (full_other from at message solo other i)) message))

-- who is among the takers
takes_none : (from at : ℕ) (bits : List Bool) (test : ℕ → Bool) → at < from → list_any (λ taker. taker == at) (filter test (places_of from bits)) ≡ false
takes_none from at [] test less = refl
takes_none from at (false ∷ bits) test less = takes_none (from + 1) at bits test (omega arith)
takes_none from at (true ∷ bits) test less =
    let slots = filter test (places_of (from + 1) bits) in
    let rest = takes_none (from + 1) at bits test (omega arith) in
    cond_both (test from) (from ∷ slots) slots (λ takers. list_any (λ taker. taker == at) takers ≡ false)
    (λ takes. ap (λ (b : Bool). b || list_any (λ taker. taker == at) slots) (ne_eqb from at (λ e. absurd (omega (arith, e, less)))) ∙ rest)
    (λ not_. rest)

takes_at : (k from at : ℕ) (bits : List Bool) (test : ℕ → Bool) → at ≡ from + k → list_any (λ taker. taker == at) (filter test (places_of from bits)) ≡ (slice_index_or bits k false && test at)
takes_at k from at [] test is = refl
takes_at zero from at (false ∷ bits) test is = takes_none (from + 1) at bits test (omega (arith, is))
takes_at (suc k) from at (false ∷ bits) test is = takes_at k (from + 1) at bits test (omega (arith, is))
takes_at zero from at (true ∷ bits) test is =
    let here : at ≡ from = omega (arith, is) in
    let slots = filter test (places_of (from + 1) bits) in
    subst (λ (n : ℕ). list_any (λ taker. taker == n) (filter test (from ∷ places_of (from + 1) bits)) ≡ test n) (sym here)
    (cond_both (test from) (from ∷ slots) slots (λ takers. list_any (λ taker. taker == from) takers ≡ test from)
    (λ takes. ap (λ (b : Bool). b || list_any (λ taker. taker == from) slots) (eq-eqb from from refl) ∙ sym takes)
    (λ not_. takes_none (from + 1) from bits test (omega arith) ∙ sym not_))
takes_at (suc k) from at (true ∷ bits) test is =
    let slots = filter test (places_of (from + 1) bits) in
    let rest = takes_at k (from + 1) at bits test (omega (arith, is)) in
    cond_both (test from) (from ∷ slots) slots (λ takers. list_any (λ taker. taker == at) takers ≡ (slice_index_or bits k false && test at))
    (λ takes. ap (λ (b : Bool). b || list_any (λ taker. taker == at) slots) (ne_eqb from at (λ e. absurd (omega (arith, e, is)))) ∙ rest)
    (λ not_. rest)

bits_few : (topic : List ℕ) (solo : SoloState) → 0 + length (routed topic (shares_of solo.groups)) ≤ length solo.groups
bits_few topic solo =
    let many : length (routed topic (shares_of solo.groups)) ≡ length solo.groups = length-map (shares_of solo.groups) _ ∙ length-shares solo.groups in
    omega arith

-- what a group accepts of a PUBLISH
pub takes_of : (answer : PublishAnswer) (publish : Publish) (solo : SoloState) (slot : ℕ) → accepted_in slot (publish_reply_as answer publish solo).solo.groups ≡ accepted_in slot solo.groups ++ taken_of_offer answer slot publish solo
takes_of (publishing.Close code) publish solo slot = sym (append-nil (accepted_in slot solo.groups))
takes_of (publishing.Offer identifier) publish solo slot =
    let bits = routed publish.topic (shares_of solo.groups) in
    offered_at slot 0 slot bits (message_of 0 publish) solo (sym (zero-add slot)) (bits_few publish.topic solo)
    ∙ ap (λ (b : Bool). accepted_in slot solo.groups ++ taken_if b (message_of 0 publish)) (sym (takes_at slot 0 slot bits (λ taker. not (is_full taker solo)) (sym (zero-add slot))))

-- ---- how many groups took a message

taken_many : (from : ℕ) (bits : List Bool) (message : Message) (now solo : SoloState) → ((slot : ℕ) → from ≤ slot → is_full slot now ≡ is_full slot solo)
    → (offer_to (places_of from bits) message now).taken ≡ length (filter (λ slot. not (is_full slot solo)) (places_of from bits))
taken_many from [] message now solo same = refl
taken_many from (false ∷ bits) message now solo same = taken_many (from + 1) bits message now solo (λ slot past. same slot (omega arith))
taken_many from (true ∷ bits) message now solo same =
    let slots = places_of (from + 1) bits in
    let next = with_message from message now in
    let has_room = λ (slot : ℕ). not (is_full slot solo) in
    let first_too = λ (b : Bool). length (cond (not b) (from ∷ filter has_room slots) (filter has_room slots)) in
    cond_both (is_full from now) (offer_to slots message now) (taken_too (offer_to slots message next)) (λ offered. offered.taken ≡ length (filter has_room (from ∷ slots)))
    (λ full. taken_many (from + 1) bits message now solo (λ slot past. same slot (omega arith)) ∙ ap first_too (sym full ∙ same from (omega arith)))
    (λ room.
    let rest = taken_many (from + 1) bits message next solo (λ slot past. full_other from slot message now (λ e. absurd (omega (arith, e, past))) ∙ same slot (omega arith)) in
    let more : 1 + (offer_to slots message next).taken ≡ suc (length (filter has_room slots)) = omega (arith, rest) in
    more ∙ ap first_too (sym room ∙ same from (omega arith)))

-- the PUBACK says so
pub answered : (publish : Publish) (identifier : ℕ) (solo : SoloState) → solo.phase ≡ Connected → publish_answer publish ≡ publishing.Offer identifier
    → (reply (kinds.Publish publish) solo).packet ≡ Some (puback identifier (puback_code (length (matching publish.topic solo)) (length (takers publish.topic solo))))
answered publish identifier solo connected answer =
    ap (λ (p : Phase). (reply_in p (kinds.Publish publish) solo).packet) connected
    ∙ ap (λ (a : PublishAnswer). (publish_reply_as a publish solo).packet) answer
    ∙ ap (λ (n : ℕ). Some (puback identifier (puback_code (length (matching publish.topic solo)) n))) (taken_many 0 (routed publish.topic (shares_of solo.groups)) (message_of 0 publish) solo solo (λ slot past. refl))
