-- The calls that a step makes, one after the other: what they offer, what they settle, and what they hand out.
use Rattle.std.specs.Prelude.{◌≡◌, ◌⊎◌, ℕ, Bool, true, false, not, List, [], ◌∷◌, ◌++◌, map, filter_map, Option, Some, None, Ok, Contains, ⊤}
use Rattle.std.specs.List.{AllByRecursion}
use Rattle.mqtt_packet.specs.declared.packet.Packet.{Packet}
use Rattle.mqtt_packet.specs.declared.packet.Packet.TheVariants as packets
use Rattle.mqtt_packet.specs.declared.packet.Publish.{Publish}
use Rattle.mqtt_packet.specs.declared.packet_properties.PublishProperties.{PublishProperties}
use Rattle.users.specs.Rights.{may_publish}
use Rattle.group_jobs.specs.declared.fate.Fate.{Fate}
use Rattle.group_jobs.specs.declared.fate.Fate.TheVariants.{Discarded}
use Rattle.group_jobs.specs.declared.message.Message.{Message}
use Rattle.group_jobs.specs.Stamps.{Held}
use Rattle.member_window.specs.Contents.{held_of}
use Rattle.conn_rules.specs.declared.publishing.PublishAnswer.{PublishAnswer}
use Rattle.conn_rules.specs.declared.publishing.PublishAnswer.TheVariants as answers
use Rattle.conn_rules.specs.Publishing.{publish_answer, message_of}
use Rattle.conn_rules.specs.Acknowledging.{fate_of}
use Rattle.conn_rules.specs.HandOuts.{is_discarded}
use Rattle.conn_rules.specs.declared.hand_outs.HandOutTerms.{HandOutTerms}
use Rattle.conn_supply.specs.declared.reply.Then.{Then}
use Rattle.conn_supply.specs.declared.reply.Then.TheVariants as thens
use Rattle.conn_supply.specs.SupplyCalls.{SupplyCall}
use Rattle.conn_supply.specs.SupplyCalls.SupplyCall.{Match, MayTake, Offer, Take, TakeBack, Settle}
use Rattle.conn_engine.specs.declared.input.Input.{Input}
use Rattle.conn_engine.specs.declared.input.Input.TheVariants as inputs
use Rattle.conn_engine.specs.declared.phase.ConnPhase.{ConnPhase}
use Rattle.conn_engine.specs.declared.phase.ConnPhase.TheVariants.{Unconnected, Waiting, Connected, Ended}
use Rattle.conn_engine.specs.Step.{hand_out_terms}
use Rattle.conn_laws.specs.Places.{has_place, own_places, IsMemberWith, KeepsPlaces, KeepsInTurn}

-- what a call offers: to the group of which slot, from which connection, and which message
abbrev pub offer_of : {P : Type 0} → SupplyCall P → Option (ℕ × ℕ × Message)
offer_of (Offer slot connection message answer) = Some (slot, connection, message)
offer_of other = None

-- which slots a topic matched
abbrev pub match_of : {P : Type 0} → SupplyCall P → Option (List ℕ × List ℕ)
match_of (Match topic slots) = Some (topic, slots)
match_of other = None

-- what a call settles, and how
abbrev pub settlement_of : {P : Type 0} → SupplyCall P → Option (Held × Fate)
settlement_of (Settle place place' envelope fate) = Some (envelope, fate)
settlement_of other = None

abbrev pub offered : {P : Type 0} → List (SupplyCall P) → List (ℕ × ℕ × Message)
offered supply_calls = filter_map offer_of supply_calls

abbrev pub matched : {P : Type 0} → List (SupplyCall P) → List (List ℕ × List ℕ)
matched supply_calls = filter_map match_of supply_calls

abbrev pub settled : {P : Type 0} → List (SupplyCall P) → List (Held × Fate)
settled supply_calls = filter_map settlement_of supply_calls

-- what a call hands out: to which place, and what
abbrev pub hand_out_of : {P : Type 0} → SupplyCall P → Option (P × Held)
hand_out_of (Take place place' (Ok (Some envelope))) = Some (place, envelope)
hand_out_of (TakeBack place place' (Ok (Some envelope))) = Some (place, envelope)
hand_out_of other = None

abbrev pub handed : {P : Type 0} → List (SupplyCall P) → List (P × Held)
handed supply_calls = filter_map hand_out_of supply_calls

-- what becomes of a hand-out: its message is sent, or else it is discarded
pub record Outcome (P : Type 0) : Type 0 where
  pub hand_out : P × Held
  pub sent : Bool

-- what is sent of what is handed out, and what is discarded
abbrev pub if_sent : {P : Type 0} → Bool → P × Held → Option (P × Held)
if_sent true hand_out = Some hand_out
if_sent false hand_out = None

abbrev pub if_discarded : {P : Type 0} → Bool → P × Held → Option (Held × Fate)
if_discarded true hand_out = None
if_discarded false hand_out = Some (hand_out.1, Discarded)

abbrev pub hand_outs_of : {P : Type 0} → List (Outcome P) → List (P × Held)
hand_outs_of outcomes = map (λ o. o.hand_out) outcomes

abbrev pub sent_of : {P : Type 0} → List (Outcome P) → List (P × Held)
sent_of outcomes = filter_map (λ o. if_sent o.sent o.hand_out) outcomes

abbrev pub discards_of : {P : Type 0} → List (Outcome P) → List (Held × Fate)
discards_of outcomes = filter_map (λ o. if_discarded o.sent o.hand_out) outcomes

-- a message is sent exactly where it is not to be discarded under these terms (3.1.2.11.4, 3.3.2.3.3)
abbrev pub IsSentIfFit : {P : Type 0} → HandOutTerms → Outcome P → Type 0
IsSentIfFit terms outcome = outcome.sent ≡ not (is_discarded terms outcome.hand_out.1.message)

-- so it is with all that a step hands out at this moment, under the terms of its client; where the connection has none after it, nothing is handed out
abbrev pub AreSentIfFit : {P : Type 0} → ConnPhase P → ℕ → List (Outcome P) → Type 0
AreSentIfFit (Unconnected opened) now outcomes = outcomes ≡ []
AreSentIfFit (Waiting request ticks) now outcomes = outcomes ≡ []
AreSentIfFit (Connected connected) now outcomes = AllByRecursion (IsSentIfFit (hand_out_terms connected now)) outcomes
AreSentIfFit Ended now outcomes = outcomes ≡ []

-- what of a message is the same whenever and under whatever identifier it goes out
pub record Content : Type 0 where
  pub topic : List ℕ
  pub properties : PublishProperties
  pub payload : List ℕ

abbrev pub content_of : Message → Content
content_of message = record { topic = message.topic; properties = message.properties; payload = message.payload }

-- that of what is handed out
abbrev pub contents_of : {P : Type 0} → List (P × Held) → List Content
contents_of hand_outs = map (λ h. content_of h.1.message) hand_outs

-- that of the message that a PUBLISH brings to a member, with all the properties that stand apart from it. The two that are the PUBLISH's own, what is left
-- of its interval and its Subscription Identifier, are told by the transcript
abbrev pub content_in : Publish → Content
content_in publish = record { topic = publish.topic; properties = publish.properties; payload = publish.payload }

-- that of a PUBLISH that was not sent before: its DUP is 0 (3.3.1.1)
abbrev pub content_if_fresh : Bool → Publish → Option Content
content_if_fresh true publish = None
content_if_fresh false publish = Some (content_in publish)

abbrev pub fresh_content : Packet → Option Content
fresh_content (packets.Publish publish) = content_if_fresh publish.dup publish
fresh_content other = None

-- what these packets bring for the first time
abbrev pub fresh_contents : List Packet → List Content
fresh_contents sent = filter_map fresh_content sent

-- a PUBLISH whose message is to be offered; any other is refused, or closes the connection
abbrev pub IsToBeOffered : PublishAnswer → Type 0
IsToBeOffered (answers.Close code) = ⊥
IsToBeOffered (answers.Offer identifier) = ⊤

-- the client of a connection may publish to the topic of this PUBLISH
abbrev pub is_allowed : {P : Type 0} → ConnPhase P → Publish → Bool
is_allowed (Connected connected) publish = may_publish connected.rights publish.topic
is_allowed phase publish = false

-- a connection is given a PUBLISH whose message is to be offered, and to whose topic its client may publish
abbrev pub Brings : {P : Type 0} → ConnPhase P → Input → Publish → Type 0
Brings (Connected connected) (inputs.Packet (packets.Publish publish)) brought =
    (brought ≡ publish) × IsToBeOffered (publish_answer publish) × (may_publish connected.rights publish.topic ≡ true)
Brings phase input brought = ⊥

-- a connection is given a PUBACK for this message, which its session holds, and which has this fate then
abbrev pub Confirms : {P : Type 0} → ConnPhase P → Input → Held → Fate → Type 0
Confirms (Connected connected) (inputs.Packet (packets.Puback puback)) envelope fate =
    (has_place connected.session.membership ≡ true)
    × Contains (held_of connected.session.window) (puback.packet_identifier, envelope) × (fate ≡ fate_of puback.reason_code)
Confirms phase input envelope fate = ⊥

-- the calls of a step in which a message was brought at this moment: it is offered once to each group that the one match answers, in their order
pub record OffersToEach {P : Type 0} (number now : ℕ) (phase : ConnPhase P) (input : Input) (supply_calls : List (SupplyCall P)) : Type 0 where
  pub publish : Publish
  pub came : input ≡ inputs.Packet (packets.Publish publish)
  pub accepted : IsToBeOffered (publish_answer publish)
  pub allowed : is_allowed phase publish ≡ true
  pub slots : List ℕ
  pub match : matched supply_calls ≡ (publish.topic, slots) ∷ []
  pub offers : offered supply_calls ≡ map (λ slot. (slot, number, message_of now publish)) slots

-- the calls of any other step: nothing is offered; and none that brought a message is such a step, unless another connection took the session
pub record OffersNone {P : Type 0} (phase : ConnPhase P) (input : Input) (supply_calls : List (SupplyCall P)) (next : Then) : Type 0 where
  pub match : matched supply_calls ≡ []
  pub offers : offered supply_calls ≡ []
  pub unless : (publish : Publish) → Brings phase input publish → next ≡ thens.Kicked

-- the calls of a step in which a message was acknowledged: it is settled once, and after it only what is discarded
pub record SettlesOne {P : Type 0} (phase : ConnPhase P) (input : Input) (supply_calls : List (SupplyCall P)) (discards : List (Held × Fate)) : Type 0 where
  pub envelope : Held
  pub fate : Fate
  pub confirmed : Confirms phase input envelope fate
  pub settles : settled supply_calls ≡ (envelope, fate) ∷ discards

-- the calls of any other step: nothing is settled but what is discarded
pub record SettlesNone {P : Type 0} (phase : ConnPhase P) (input : Input) (supply_calls : List (SupplyCall P)) (next : Then) (discards : List (Held × Fate)) : Type 0 where
  pub settles : settled supply_calls ≡ discards
  pub unless : (envelope : Held) (fate : Fate) → Confirms phase input envelope fate → next ≡ thens.Kicked

-- the calls of a step in which an allocation failed for a PUBLISH: its message was offered once to some of the groups, from the first on
pub record OffersToSome {P : Type 0} (number now : ℕ) (phase : ConnPhase P) (input : Input) (supply_calls : List (SupplyCall P)) : Type 0 where
  pub publish : Publish
  pub came : input ≡ inputs.Packet (packets.Publish publish)
  pub allowed : is_allowed phase publish ≡ true
  pub slots : List ℕ
  pub others : List ℕ
  pub match : matched supply_calls ≡ (publish.topic, slots ++ others) ∷ []
  pub offers : offered supply_calls ≡ map (λ slot. (slot, number, message_of now publish)) slots

-- a call by which a message is asked for, or whether one may be, or by which it is discarded
abbrev pub AsksForMessage : {P : Type 0} → SupplyCall P → Type 0
AsksForMessage (MayTake place answer) = ⊤
AsksForMessage (Take place place' answer) = ⊤
AsksForMessage (TakeBack place place' answer) = ⊤
AsksForMessage (Settle place place' envelope fate) = fate ≡ Discarded
AsksForMessage _ = ⊥

-- the last calls of a step ask for messages, discard some of them, and do nothing else: the first of them for the place that the connection has by then, each for that place as the call before left it, and
-- as the last one leaves it the connection has it after the step, as a member
abbrev pub AsksForOne : {P : Type 0} → ConnPhase P → List (SupplyCall P) → List (SupplyCall P) → ConnPhase P → Type 0
AsksForOne {P} phase earlier last phase' =
    (place place' : P) × KeepsPlaces (own_places phase) earlier (place ∷ []) × KeepsInTurn (place ∷ []) last (place' ∷ []) × AllByRecursion AsksForMessage last × IsMemberWith phase' place'

-- what a step hands out it hands out by its last calls, to the one place of its connection
pub record HandsOutLast {P : Type 0} (phase : ConnPhase P) (supply_calls : List (SupplyCall P)) (phase' : ConnPhase P) : Type 0 where
  pub earlier : List (SupplyCall P)
  pub last : List (SupplyCall P)
  pub both : supply_calls ≡ earlier ++ last
  pub none_earlier : handed earlier ≡ []
  pub to_one : (last ≡ []) ⊎ AsksForOne phase earlier last phase'

module _ {S P : Type 0} (call : S → SupplyCall P → S → Type 0) where
  -- these calls are made, one after the other
  abbrev pub MakesAll : S → List (SupplyCall P) → S → Type 0
  MakesAll old [] new = new ≡ old
  MakesAll old (supply_call ∷ supply_calls) new = (mid : S) × call old supply_call mid × MakesAll mid supply_calls new

  -- some calls lead from the one to the other
  abbrev pub CallsLead : S → S → Type 0
  CallsLead old new = (supply_calls : List (SupplyCall P)) × MakesAll old supply_calls new

  -- the calls of a step, and what they offer, settle and hand out
  pub record StepCalls (old : S) (number : ℕ) (phase : ConnPhase P) (now : ℕ) (input : Input) (sent : List Packet) (next : Then) (phase' : ConnPhase P) (new : S) : Type 0 where
    pub supply_calls : List (SupplyCall P)
    pub made : MakesAll old supply_calls new
    pub offers : OffersToEach number now phase input supply_calls ⊎ OffersNone phase input supply_calls next
    -- what becomes of each hand-out
    pub outcomes : List (Outcome P)
    pub handed_out : handed supply_calls ≡ hand_outs_of outcomes
    pub fit : AreSentIfFit phase' now outcomes
    pub settles : SettlesOne phase input supply_calls (discards_of outcomes) ⊎ SettlesNone phase input supply_calls next (discards_of outcomes)
    -- what is not discarded of them is sent by this step, each message in a PUBLISH of its own, in their order; and no other is sent for the first time
    pub hands : fresh_contents sent ≡ contents_of (sent_of outcomes)
    -- it is handed out last, to the place that the connection has after this step, one message after the other
    pub hands_last : HandsOutLast phase supply_calls phase'
    -- the connection has the places that it had, but for what these calls brought, took and changed
    pub places : KeepsPlaces (own_places phase) supply_calls (own_places phase')

  -- the calls of a step in which an allocation failed: after it the connection has no place any more
  pub record FailedCalls (old : S) (number : ℕ) (phase : ConnPhase P) (now : ℕ) (input : Input) (new : S) : Type 0 where
    pub supply_calls : List (SupplyCall P)
    pub made : MakesAll old supply_calls new
    pub offers : OffersToSome number now phase input supply_calls ⊎ (offered supply_calls ≡ [])
    -- of what is handed out, some is discarded, and the rest is held
    pub outcomes : List (Outcome P)
    pub handed_out : handed supply_calls ≡ hand_outs_of outcomes
    pub settles : SettlesOne phase input supply_calls (discards_of outcomes) ⊎ (settled supply_calls ≡ discards_of outcomes)
    pub places : KeepsPlaces (own_places phase) supply_calls []
