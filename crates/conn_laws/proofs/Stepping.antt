-- A step is a list of calls.
use Rattle.std.proofs.Common.{◌≡◌, ℕ, ◌-◌, Bool, true, false, List, [], ◌∷◌, ◌++◌, map, filter_map, Option, Some, None, ◌⊎◌, refl, sym, ap, subst, ◌∙◌, append-nil, inl, inr, ⊎_elim}
use Rattle.std.specs.List.{AllByRecursion}
use Rattle.std.proofs.lemmas.List.Elements.{filter_map-append}
use Rattle.mqtt_packet.specs.declared.packet.ConnectRefusal.{ConnectRefusal}
use Rattle.mqtt_packet.specs.declared.packet.Packet.{Packet}
use Rattle.mqtt_packet.specs.declared.packet.Packet.TheVariants as packets
use Rattle.mqtt_packet.specs.declared.packet.Publish.{Publish}
use Rattle.mqtt_packet.specs.declared.packet.Puback.{Puback}
use Rattle.users.specs.Rights.{may_publish}
use Rattle.group_jobs.specs.declared.fate.Fate.{Fate}
use Rattle.group_jobs.specs.declared.message.Message.{Message}
use Rattle.group_jobs.specs.Stamps.{Held}
use Rattle.member_window.specs.Contents.{Contents, held_of}
use Rattle.member_window.specs.Calls.{Acks}
use Rattle.member_window.proofs.Lists.{contains_identifier}
use Rattle.session_desk.specs.Everything.{place_in}
use Rattle.session_desk.specs.declared.session.Membership.{Membership}
use Rattle.session_desk.specs.declared.session.Membership.TheVariants.{NotMember, Member, Leaving}
use Rattle.conn_rules.specs.declared.client_limits.ClientLimits.{ClientLimits}
use Rattle.conn_rules.specs.declared.connecting.FirstAnswer.{FirstAnswer}
use Rattle.conn_rules.specs.declared.connecting.FirstAnswer.TheVariants as first
use Rattle.conn_rules.specs.declared.publishing.PublishAnswer.{PublishAnswer}
use Rattle.conn_rules.specs.declared.publishing.PublishAnswer.TheVariants as answers
use Rattle.conn_rules.specs.Acknowledging.{fate_of}
use Rattle.conn_rules.specs.Connecting.{first_answer, is_given_expiry}
use Rattle.conn_rules.specs.Faults.{fault_refusal}
use Rattle.conn_rules.specs.KeepAlive.{is_late, is_overdue}
use Rattle.conn_rules.specs.Publishing.{publish_answer, message_of}
use Rattle.conn_rules.specs.Subscribing.{subscribe_refusal, unsubscribe_refusal}
use Rattle.conn_supply.specs.declared.reply.Then.{Then}
use Rattle.conn_supply.specs.declared.reply.Then.TheVariants.{Go, Close, Kicked}
use Rattle.conn_supply.specs.declared.reply.Reply.{Reply}
use Rattle.conn_supply.specs.SupplyCalls.{SupplyCall}
use Rattle.conn_supply.specs.SupplyCalls.SupplyCall.{Match, Offer, Settle}
use Rattle.conn_supply.specs.Acknowledging.{Settles, AcknowledgesFor}
use Rattle.conn_engine.specs.declared.input.Input.{Input}
use Rattle.conn_engine.specs.declared.input.Input.TheVariants as inputs
use Rattle.conn_engine.specs.declared.phase.ConnectedClient.{ConnectedClient}
use Rattle.conn_engine.specs.declared.phase.Opening.{Opening}
use Rattle.conn_engine.specs.declared.phase.ConnPhase.{ConnPhase}
use Rattle.conn_engine.specs.declared.phase.ConnPhase.TheVariants.{Unconnected, Waiting, Connected, Ended}
use Rattle.conn_engine.specs.Answering.{DisconnectsIf, Disconnects, Answers}
use Rattle.conn_laws.specs.Places.{has_place, own_places, IsMemberWith, KeepsPlaces, KeepsInTurn}
use Rattle.conn_laws.specs.Calls.{offer_of, match_of, settlement_of, hand_out_of, offered, matched, settled, handed, Outcome, hand_outs_of, sent_of, discards_of, AreSentIfFit, contents_of, fresh_contents, IsToBeOffered, Brings, Confirms, OffersToEach, OffersNone, SettlesOne, SettlesNone, AsksForMessage, HandsOutLast, MakesAll, StepCalls}
use Rattle.conn_supply.specs.Publishing.{AnswersPublish, Offers, OffersIf}
use Rattle.conn_engine.specs.Step.{hearing, hand_out_terms, IsRefusedIf, WaitsForConnect, AnswersFirst, Concludes, AnswersPacket, AnswersTick, IsHeard, IsKicked, AnswersUnlessKicked, Reacts, Hands, Steps}
use Rattle.conn_laws.proofs.Replying.{replied_and_sent}
use Rattle.conn_laws.proofs.KeptPlaces.{kept_by_none, kept_by_one, kept_by_both, kept_beside}
use Rattle.conn_laws.proofs.HandingOut.{AsksOnlyFor, handed_out}
use Rattle.conn_laws.proofs.Calling.{Plain, becomes, beside, still, plain as plain_calls, one, behind, joins, parted, swept, attached, tried_again, subscribed_as, unsubscribed_as}

-- nothing more is found after or before
pub none_behind : {P X : Type 0} (find : SupplyCall P → Option X) (supply_calls others : List (SupplyCall P)) (xs : List X) → filter_map find supply_calls ≡ xs → filter_map find others ≡ [] → filter_map find (supply_calls ++ others) ≡ xs
none_behind find supply_calls others xs these none = filter_map-append find supply_calls others ∙ (λ i. these i ++ none i) ∙ append-nil xs

pub none_before : {P X : Type 0} (find : SupplyCall P → Option X) (supply_calls others : List (SupplyCall P)) (xs : List X) → filter_map find supply_calls ≡ [] → filter_map find others ≡ xs → filter_map find (supply_calls ++ others) ≡ xs
none_before find supply_calls others xs none those = filter_map-append find supply_calls others ∙ (λ i. none i ++ those i)

-- where the connection has ended nothing is handed out
pub none_at_the_end : {P : Type 0} (phase : ConnPhase P) (now : ℕ) (supply_calls : List (SupplyCall P)) (outcomes : List (Outcome P)) → phase ≡ Ended → AreSentIfFit phase now outcomes
    → handed supply_calls ≡ hand_outs_of outcomes → handed supply_calls ≡ []
none_at_the_end phase now supply_calls outcomes over fit is = is ∙ ap hand_outs_of (subst (λ s. AreSentIfFit s now outcomes) over fit)

module _ {S P : Type 0} (call : S → SupplyCall P → S → Type 0) where
  -- the calls of a step, by which these messages are handed out, and those discarded, and after which the connection has these places
  pub record Walked (given : List (P × Held)) (discards : List (Held × Fate)) (old : S) (number now : ℕ) (phase : ConnPhase P) (input : Input) (next : Then) (after : List P) (new : S) : Type 0 where
    pub supply_calls : List (SupplyCall P)
    pub made : MakesAll call old supply_calls new
    pub offers : OffersToEach number now phase input supply_calls ⊎ OffersNone phase input supply_calls next
    pub settles : SettlesOne phase input supply_calls discards ⊎ SettlesNone phase input supply_calls next discards
    pub hands : handed supply_calls ≡ given
    pub places : KeepsPlaces (own_places phase) supply_calls after

  -- all calls of a step, of which the last hand out
  record All (given : List (P × Held)) (discards : List (Held × Fate)) (old : S) (number now : ℕ) (phase : ConnPhase P) (input : Input) (next : Then) (phase' : ConnPhase P) (new : S) : Type 0 where
    pub calls : Walked given discards old number now phase input next (own_places phase') new
    pub hands_last : HandsOutLast phase calls.supply_calls phase'

  -- what is handed out behind the reply, to the place that there is then
  pub record HandsBehind (now : ℕ) (sent : List Packet) (between : ConnPhase P) (old : S) (phase : ConnPhase P) (new : S) : Type 0 where
    pub outcomes : List (Outcome P)
    pub calls : Plain call (hand_outs_of outcomes) (discards_of outcomes) (own_places between) (own_places phase) old new
    pub fit : AreSentIfFit phase now outcomes
    pub contents : fresh_contents sent ≡ contents_of (sent_of outcomes)
    pub to_one : (handed calls.supply_calls ≡ [])
        ⊎ ((place place' : P) × (own_places between ≡ place ∷ []) × KeepsInTurn (place ∷ []) calls.supply_calls (place' ∷ []) × AllByRecursion AsksForMessage calls.supply_calls × IsMemberWith phase place')

  none_fit : (phase : ConnPhase P) (now : ℕ) → AreSentIfFit phase now []
  none_fit (Unconnected opened) now = refl
  none_fit (Waiting request ticks) now = refl
  none_fit (Connected connected) now = tt
  none_fit Ended now = refl

  none_behind_it : (now : ℕ) (between : ConnPhase P) (old new : S) (sent : List Packet) (phase : ConnPhase P) → (sent ≡ []) × (phase ≡ between) × (new ≡ old) → HandsBehind now sent between old phase new
  none_behind_it now between old new sent phase hands =
      subst (λ packets. HandsBehind now packets between old phase new) (sym hands.0)
      (subst (λ after. HandsBehind now [] between old after new) (sym hands.1)
      (record {
        outcomes = [];
        calls = record { supply_calls = []; made = hands.2; match = refl; offers = refl; settles = refl; hands = refl; places = kept_by_none (own_places between) };
        fit = none_fit between now;
        contents = refl;
        to_one = inl refl;
      }))

  -- the places after it, said otherwise
  comes_to : {given : List (P × Held)} {discards : List (Held × Fate)} {old new : S} {number now : ℕ} {phase : ConnPhase P} {input : Input} {next : Then} {after after' : List P} → after' ≡ after
      → Walked given discards old number now phase input next after new → Walked given discards old number now phase input next after' new
  comes_to {given} {discards} {old} {new} {number} {now} {phase} {input} {next} same calls = subst (λ places. Walked given discards old number now phase input next places new) (sym same) calls

  -- a step that brings and acknowledges nothing
  plain : {after : List P} (old new : S) (number now : ℕ) (phase : ConnPhase P) (input : Input) (next : Then) → Plain call [] [] (own_places phase) after old new
      → ((publish : Publish) → Brings phase input publish → next ≡ Kicked) → ((envelope : Held) (fate : Fate) → Confirms phase input envelope fate → next ≡ Kicked)
      → Walked [] [] old number now phase input next after new
  plain old new number now phase input next calls none_brought none_acknowledged =
      record {
        supply_calls = calls.supply_calls;
        made = calls.made;
        offers = inr (record { match = calls.match; offers = calls.offers; unless = none_brought });
        settles = inr (record { settles = calls.settles; unless = none_acknowledged });
        hands = calls.hands;
        places = calls.places;
      }

  -- a step of an input by which nothing could be brought or acknowledged
  idle : {after : List P} (old new : S) (number now : ℕ) (phase : ConnPhase P) (input : Input) (next : Then) → Plain call [] [] (own_places phase) after old new
      → ((publish : Publish) → Brings phase input publish → ⊥) × ((envelope : Held) (fate : Fate) → Confirms phase input envelope fate → ⊥)
      → Walked [] [] old number now phase input next after new
  idle old new number now phase input next calls never =
      plain old new number now phase input next calls (λ publish brings. absurd (never.0 publish brings)) (λ envelope fate confirms. absurd (never.1 envelope fate confirms))

  -- calls that offer and settle the same
  pub offers_alike : (number now : ℕ) (phase : ConnPhase P) (input : Input) (next : Then) (supply_calls all : List (SupplyCall P)) → matched all ≡ matched supply_calls → offered all ≡ offered supply_calls
      → OffersToEach number now phase input supply_calls ⊎ OffersNone phase input supply_calls next → OffersToEach number now phase input all ⊎ OffersNone phase input all next
  offers_alike number now phase input next supply_calls all same_matches same_offers (inl each) =
      inl (record {
        publish = each.publish;
        came = each.came;
        accepted = each.accepted;
        allowed = each.allowed;
        slots = each.slots;
        match = same_matches ∙ each.match;
        offers = same_offers ∙ each.offers;
      })
  offers_alike number now phase input next supply_calls all same_matches same_offers (inr none) =
      inr (record { match = same_matches ∙ none.match; offers = same_offers ∙ none.offers; unless = none.unless })

  pub settles_alike : (phase : ConnPhase P) (input : Input) (next : Then) (supply_calls all : List (SupplyCall P)) (discards : List (Held × Fate)) → settled all ≡ settled supply_calls ++ discards
      → SettlesOne phase input supply_calls [] ⊎ SettlesNone phase input supply_calls next [] → SettlesOne phase input all discards ⊎ SettlesNone phase input all next discards
  settles_alike phase input next supply_calls all discards same (inl only) =
      inl (record { envelope = only.envelope; fate = only.fate; confirmed = only.confirmed; settles = same ∙ ap (λ (l : List (Held × Fate)). l ++ discards) only.settles })
  settles_alike phase input next supply_calls all discards same (inr none) =
      inr (record { settles = same ∙ ap (λ (l : List (Held × Fate)). l ++ discards) none.settles; unless = none.unless })

  -- calls after those of a step, or before them, by which nothing is offered, and nothing settled but what is discarded
  abbrev pub further : {discards : List (Held × Fate)} {between after : List P} (more : List (P × Held)) (old mid new : S) (number now : ℕ) (phase : ConnPhase P) (input : Input) (next : Then)
      → Walked [] [] old number now phase input next between mid → Plain call more discards between after mid new → Walked more discards old number now phase input next after new
  further {discards} {between} {after} more old mid new number now phase input next calls others =
      let all = calls.supply_calls ++ others.supply_calls in
      record {
        supply_calls = all;
        made = joins call calls.supply_calls others.supply_calls old mid new calls.made others.made;
        offers =
            offers_alike number now phase input next calls.supply_calls all (none_behind match_of calls.supply_calls others.supply_calls _ refl others.match)
            (none_behind offer_of calls.supply_calls others.supply_calls _ refl others.offers) calls.offers;
        settles =
            settles_alike phase input next calls.supply_calls all discards
            (filter_map-append settlement_of calls.supply_calls others.supply_calls ∙ ap (λ (l : List (Held × Fate)). settled calls.supply_calls ++ l) others.settles) calls.settles;
        hands = filter_map-append hand_out_of calls.supply_calls others.supply_calls ∙ (λ i. calls.hands i ++ others.hands i);
        places = kept_by_both (own_places phase) between after calls.supply_calls others.supply_calls calls.places others.places;
      }

  earlier : {after : List P} (old mid new : S) (number now : ℕ) (phase : ConnPhase P) (input : Input) (next : Then) → Plain call [] [] (own_places phase) (own_places phase) old mid
      → Walked [] [] mid number now phase input next after new → Walked [] [] old number now phase input next after new
  earlier {after} old mid new number now phase input next others calls =
      let all = others.supply_calls ++ calls.supply_calls in
      record {
        supply_calls = all;
        made = joins call others.supply_calls calls.supply_calls old mid new others.made calls.made;
        offers =
            offers_alike number now phase input next calls.supply_calls all (none_before match_of others.supply_calls calls.supply_calls _ others.match refl)
            (none_before offer_of others.supply_calls calls.supply_calls _ others.offers refl) calls.offers;
        settles =
            settles_alike phase input next calls.supply_calls all []
            (none_before settlement_of others.supply_calls calls.supply_calls _ others.settles refl ∙ sym (append-nil (settled calls.supply_calls))) calls.settles;
        hands = none_before hand_out_of others.supply_calls calls.supply_calls [] others.hands calls.hands;
        places = kept_by_both (own_places phase) (own_places phase) after others.supply_calls calls.supply_calls others.places calls.places;
      }

  -- a message is offered once to each of these groups
  record OffersTo (old : S) (number : ℕ) (message : Message) (slots : List ℕ) (new : S) : Type 0 where
    supply_calls : List (SupplyCall P)
    made : MakesAll call old supply_calls new
    match : matched supply_calls ≡ []
    offers : offered supply_calls ≡ map (λ slot. (slot, number, message)) slots
    settles : settled supply_calls ≡ []
    hands : handed supply_calls ≡ []
    places : KeepsPlaces [] supply_calls []

  offers_to : (slots : List ℕ) (old new : S) (number : ℕ) (message : Message) (taken : ℕ) → Offers call old number message slots taken new → OffersTo old number message slots new
  offers_to [] old new number message taken offers = record { supply_calls = []; made = offers.1; match = refl; offers = refl; settles = refl; hands = refl; places = kept_by_none [] }
  offers_to (slot ∷ slots) old new number message taken offers =
      let rest = offers_to slots offers.1 new number message offers.3 offers.6 in
      let first : SupplyCall P = Offer slot number message offers.0 in
      record {
        supply_calls = first ∷ rest.supply_calls;
        made = (offers.1, offers.4, rest.made);
        match = rest.match;
        offers = ap (λ others. (slot, number, message) ∷ others) rest.offers;
        settles = rest.settles;
        hands = rest.hands;
        places = kept_by_both [] [] [] (first ∷ []) rest.supply_calls (kept_by_one first) rest.places;
      }

  -- a message is offered where the client may publish to its topic
  offered_if : (allowed : Bool) (identifier : ℕ) (old new : S) (number now : ℕ) (connected : ConnectedClient P) (publish : Publish) (reply : Reply) → publish_answer publish ≡ answers.Offer identifier
      → may_publish connected.rights publish.topic ≡ allowed → OffersIf call allowed old number now publish identifier reply new
      → Walked [] [] old number now (Connected connected) (inputs.Packet (packets.Publish publish)) reply.next (own_places (Connected connected)) new
  offered_if false identifier old new number now connected publish reply is allowed answers =
      plain old new number now (Connected connected) _ reply.next (still call old new refl answers.1) (λ brought brings. absurd (cc (brings.2, allowed))) (λ envelope fate confirms. absurd confirms)
  offered_if true identifier old new number now connected publish reply is allowed offers =
      let to = offers_to offers.slots offers.mid new number (message_of now publish) offers.taken offers.offered in
      let first : SupplyCall P = Match publish.topic offers.slots in
      record {
        supply_calls = first ∷ to.supply_calls;
        made = (offers.mid, offers.matched, to.made);
        offers = inl (record {
          publish = publish;
          came = refl;
          accepted = subst IsToBeOffered (sym is) tt;
          allowed = allowed;
          slots = offers.slots;
          match = ap (λ others. (publish.topic, offers.slots) ∷ others) to.match;
          offers = to.offers;
        });
        settles = inr (record { settles = to.settles; unless = λ envelope fate confirms. absurd confirms });
        hands = to.hands;
        places = kept_beside (own_places (Connected connected)) [] [] (first ∷ to.supply_calls) (kept_by_both [] [] [] (first ∷ []) to.supply_calls (kept_by_one first) to.places);
      }

  published : (answer : PublishAnswer) (old new : S) (number now : ℕ) (connected : ConnectedClient P) (publish : Publish) (reply : Reply) → publish_answer publish ≡ answer
      → AnswersPublish call connected.rights old number now publish answer reply new → Walked [] [] old number now (Connected connected) (inputs.Packet (packets.Publish publish)) reply.next (own_places (Connected connected)) new
  published (answers.Close code) old new number now connected publish reply is answers =
      plain old new number now (Connected connected) _ reply.next (still call old new refl answers.1) (λ brought brings. absurd (subst IsToBeOffered is brings.1)) (λ envelope fate confirms. absurd confirms)
  published (answers.Offer identifier) old new number now connected publish reply is offers =
      offered_if (may_publish connected.rights publish.topic) identifier old new number now connected publish reply is refl offers

  -- a PUBACK for what the session holds, and any other
  settled_as : (found : Option Held) (old new : S) (number now : ℕ) (connected : ConnectedClient P) (puback : Puback) (place place' : P) (window' : Contents Held) (next : Then)
      → has_place connected.session.membership ≡ true → place_in connected.session.membership ≡ place ∷ [] → Acks connected.session.window puback.packet_identifier found window'
      → Settles call old place puback.reason_code found place' new → Walked [] [] old number now (Connected connected) (inputs.Packet (packets.Puback puback)) next (place' ∷ []) new
  settled_as (Some envelope) old new number now connected puback place place' window' next has places acked settled =
      let only : SupplyCall P = Settle place place' envelope (fate_of puback.reason_code) in
      record {
        supply_calls = only ∷ [];
        made = (new, settled, refl);
        offers = inr (record { match = refl; offers = refl; unless = λ publish brings. absurd brings });
        settles = inl (record { envelope = envelope; fate = fate_of puback.reason_code; confirmed = (has, acked.0, refl); settles = refl });
        hands = refl;
        places = subst (λ before. KeepsPlaces before (only ∷ []) (place' ∷ [])) (sym places) (kept_by_one only);
      }
  settled_as None old new number now connected puback place place' window' next has places acked settled =
      plain old new number now (Connected connected) _ next (still call old new (ap (λ p. p ∷ []) settled.0 ∙ sym places) settled.1) (λ publish brings. absurd brings)
      (λ envelope fate confirms. absurd (acked.0 (contains_identifier (held_of connected.session.window) puback.packet_identifier envelope confirms.1)))

  acknowledged_as : (membership : Membership P) (old new : S) (number now : ℕ) (connected : ConnectedClient P) (puback : Puback) (membership' : Membership P) (window' : Contents Held) (next : Then)
      → connected.session.membership ≡ membership → AcknowledgesFor call old membership connected.session.window puback.packet_identifier puback.reason_code membership' window' new
      → Walked [] [] old number now (Connected connected) (inputs.Packet (packets.Puback puback)) next (place_in membership') new
  acknowledged_as NotMember old new number now connected puback membership' window' next is does =
      plain old new number now (Connected connected) _ next (still call old new (ap place_in does.0 ∙ sym (ap place_in is)) does.2) (λ publish brings. absurd brings)
      (λ envelope fate confirms. let no : true ≡ false = sym confirms.0 ∙ ap has_place is in cc)
  acknowledged_as (Member place) old new number now connected puback membership' window' next is does =
      comes_to (ap place_in does.2) (settled_as does.1.found old new number now connected puback place does.0 window' next (ap has_place is) (ap place_in is) does.1.acked does.1.settled)
  acknowledged_as (Leaving place) old new number now connected puback membership' window' next is does =
      comes_to (ap place_in does.2) (settled_as does.1.found old new number now connected puback place does.0 window' next (ap has_place is) (ap place_in is) does.1.acked does.1.settled)

  -- a connection that stays what it was has the places that it had
  alike : (after was : ConnectedClient P) → after ≡ was → own_places (Connected after) ≡ own_places (Connected was)
  alike after was same = ap (λ (connected : ConnectedClient P). own_places (Connected connected)) same

  disconnected_if : (given : Bool) (connected after : ConnectedClient P) (seconds : ℕ) (reply : Reply) → DisconnectsIf given connected seconds after reply → own_places (Connected after) ≡ own_places (Connected connected)
  disconnected_if true connected after seconds reply does = alike after _ does.0
  disconnected_if false connected after seconds reply does = alike after _ does.0

  disconnected : (seconds : Option ℕ) (connected after : ConnectedClient P) (reply : Reply) → Disconnects connected seconds after reply → own_places (Connected after) ≡ own_places (Connected connected)
  disconnected None connected after reply does = alike after _ does.0
  disconnected (Some seconds) connected after reply does = disconnected_if (is_given_expiry seconds connected.terms) connected after seconds reply does

  -- who is refused, or still to send a CONNECT, has none
  refused_if : (refusal : Option ConnectRefusal) (phase : ConnPhase P) (reply : Reply) → IsRefusedIf refusal phase reply → own_places phase ≡ []
  refused_if (Some refusal) phase reply refused = ap own_places refused.over
  refused_if None phase reply closed = ap own_places closed.over

  waits_for_connect : (late : Bool) (opened : Opening) (phase : ConnPhase P) (reply : Reply) → WaitsForConnect late opened phase reply → own_places phase ≡ []
  waits_for_connect true opened phase reply closed = ap own_places closed.over
  waits_for_connect false opened phase reply waits = ap own_places waits.0

  module _ (slot_of : P → ℕ) where
    -- the answer to a packet
    answered : (packet : Packet) (old new : S) (number now : ℕ) (connected after : ConnectedClient P) (reply : Reply) → Answers call slot_of old number (hearing connected now) now packet after reply new
        → Walked [] [] old number now (Connected connected) (inputs.Packet packet) reply.next (own_places (Connected after)) new
    answered (packets.Publish publish) old new number now connected after reply answers =
        comes_to (alike after _ answers.1) (published (publish_answer publish) old new number now connected publish reply refl answers.0)
    answered (packets.Puback puback) old new number now connected after reply answers =
        comes_to (alike after _ answers.2) (acknowledged_as connected.session.membership old new number now connected puback _ _ reply.next refl answers.1.settles)
    answered (packets.Subscribe subscribe) old new number now connected after reply answers =
        idle old new number now (Connected connected) _ reply.next
        (becomes call (alike after _ answers.3)
        (subscribed_as call slot_of connected.rights (subscribe_refusal subscribe) old new connected.session.membership connected.session.subscription subscribe reply answers.0 answers.1 answers.2))
        (λ p b. b, λ e f c. c)
    answered (packets.Unsubscribe unsubscribe) old new number now connected after reply answers =
        idle old new number now (Connected connected) _ reply.next
        (becomes call (alike after _ answers.2) (unsubscribed_as call slot_of (unsubscribe_refusal unsubscribe) old new connected.session.membership unsubscribe reply answers.0 answers.1))
        (λ p b. b, λ e f c. c)
    answered packets.Pingreq old new number now connected after reply answers = idle old new number now (Connected connected) _ reply.next (still call old new (alike after _ answers.0) answers.2) (λ p b. b, λ e f c. c)
    answered (packets.Disconnect disconnect) old new number now connected after reply answers =
        idle old new number now (Connected connected) _ reply.next
        (still call old new (disconnected disconnect.properties.session_expiry_interval (hearing connected now) after reply answers.0) answers.1) (λ p b. b, λ e f c. c)
    answered (packets.Connect connect) old new number now connected after reply answers = idle old new number now (Connected connected) _ reply.next (still call old new (alike after _ answers.0) answers.2) (λ p b. b, λ e f c. c)
    answered (packets.Connack connack) old new number now connected after reply answers = idle old new number now (Connected connected) _ reply.next (still call old new (alike after _ answers.0) answers.2) (λ p b. b, λ e f c. c)
    answered (packets.Suback suback) old new number now connected after reply answers = idle old new number now (Connected connected) _ reply.next (still call old new (alike after _ answers.0) answers.2) (λ p b. b, λ e f c. c)
    answered (packets.Unsuback unsuback) old new number now connected after reply answers = idle old new number now (Connected connected) _ reply.next (still call old new (alike after _ answers.0) answers.2) (λ p b. b, λ e f c. c)
    answered packets.Pingresp old new number now connected after reply answers = idle old new number now (Connected connected) _ reply.next (still call old new (alike after _ answers.0) answers.2) (λ p b. b, λ e f c. c)
    answered (packets.Foreign kind) old new number now connected after reply answers = idle old new number now (Connected connected) _ reply.next (still call old new (alike after _ answers.0) answers.2) (λ p b. b, λ e f c. c)
    answered (packets.OtherVersion version) old new number now connected after reply answers = idle old new number now (Connected connected) _ reply.next (still call old new (alike after _ answers.0) answers.2) (λ p b. b, λ e f c. c)
    answered packets.WithWill old new number now connected after reply answers = idle old new number now (Connected connected) _ reply.next (still call old new (alike after _ answers.0) answers.2) (λ p b. b, λ e f c. c)

    -- a taken over connection brings nothing
    kicked : (old new : S) (number : ℕ) (connected : ConnectedClient P) (now : ℕ) (input : Input) (phase : ConnPhase P) (reply : Reply) → IsKicked call slot_of old connected now phase reply new
        → Walked [] [] old number now (Connected connected) input reply.next (own_places phase) new
    kicked old new number connected now input phase reply is =
        let told : reply.next ≡ Kicked = ap (λ r. r.next) is.0 in
        plain old new number now (Connected connected) input reply.next (becomes call (ap own_places is.1.1) (parted call old new connected.session now is.1.0)) (λ publish brings. told) (λ envelope fate confirms. told)

    concluded : (next : Then) (old new : S) (connected : ConnectedClient P) (now : ℕ) (phase : ConnPhase P) → Concludes call slot_of old connected now next phase new
        → Plain call [] [] (own_places (Connected connected)) (own_places phase) old new
    concluded Go old new connected now phase concludes = still call old new (ap own_places concludes.0) concludes.1
    concluded Close old new connected now phase concludes = becomes call (ap own_places concludes.1) (parted call old new connected.session now concludes.0)
    concluded Kicked old new connected now phase concludes = becomes call (ap own_places concludes.1) (parted call old new connected.session now concludes.0)

    packet_answered : (was_kicked : Bool) (old new : S) (number now : ℕ) (connected : ConnectedClient P) (packet : Packet) (phase : ConnPhase P) (reply : Reply)
        → AnswersUnlessKicked call slot_of was_kicked old connected now (AnswersPacket call slot_of old number connected now packet) phase reply new
        → Walked [] [] old number now (Connected connected) (inputs.Packet packet) reply.next (own_places phase) new
    packet_answered true old new number now connected packet phase reply is = kicked old new number connected now _ phase reply is
    packet_answered false old new number now connected packet phase reply answers =
        further [] old answers.1 new number now (Connected connected) _ reply.next (answered packet old answers.1 number now connected answers.0 reply answers.2)
        (concluded reply.next answers.1 new answers.0 now phase answers.3)

    heard : (overdue : Bool) (old new : S) (connected : ConnectedClient P) (now : ℕ) (phase : ConnPhase P) (reply : Reply) → IsHeard call slot_of overdue old connected now phase reply new
        → Plain call [] [] (own_places (Connected connected)) (own_places phase) old new
    heard true old new connected now phase reply is = becomes call (ap own_places is.1.1) (parted call old new connected.session now is.1.0)
    heard false old new connected now phase reply is = still call old new (ap own_places is.1) is.2

    tick_answered : (was_kicked : Bool) (old new : S) (connected : ConnectedClient P) (now : ℕ) (phase : ConnPhase P) (reply : Reply)
        → AnswersUnlessKicked call slot_of was_kicked old connected now (AnswersTick call slot_of old connected now) phase reply new
        → Plain call [] [] (own_places (Connected connected)) (own_places phase) old new
    tick_answered true old new connected now phase reply is = becomes call (ap own_places is.1.1) (parted call old new connected.session now is.1.0)
    tick_answered false old new connected now phase reply answers =
        behind call old answers.0 new (beside call (own_places (Connected connected)) (swept call 256 old answers.0 now answers.1))
        (heard (is_overdue connected.terms.keep_alive (now - connected.heard)) answers.0 new connected now phase reply answers.2)

    first_answered : (answer : FirstAnswer) (old new : S) (number : ℕ) (limits : ClientLimits) (now : ℕ) (packet : Packet) (phase : ConnPhase P) (reply : Reply)
        → AnswersFirst call slot_of answer old number limits now packet phase reply new → Plain call [] [] [] (own_places phase) old new
    first_answered first.Close old new number limits now packet phase reply answers = still call old new (ap own_places answers.0.over) answers.1
    first_answered (first.Refuse refusal) old new number limits now packet phase reply answers = still call old new (ap own_places answers.0.over) answers.1
    first_answered first.Attach old new number limits now packet phase reply answers = attached call old new number now _ 0 phase reply answers.2

    -- an input of a connection
    pub reacted : (phase : ConnPhase P) (input : Input) (old new : S) (number now : ℕ) (between : ConnPhase P) (reply : Reply)
        → Reacts call slot_of old number phase now input between reply new → Walked [] [] old number now phase input reply.next (own_places between) new
    reacted (Unconnected opened) (inputs.Packet packet) old new number now between reply is = idle old new number now _ _ reply.next (first_answered (first_answer opened.limits.users packet) old new number opened.limits now packet between reply is) (λ p b. b, λ e f c. c)
    reacted (Unconnected opened) (inputs.Fault fault) old new number now between reply is =
        idle old new number now _ _ reply.next (still call old new (refused_if (fault_refusal fault) between reply is.0) is.1) (λ p b. b, λ e f c. c)
    reacted (Unconnected opened) inputs.Tick old new number now between reply is =
        idle old new number now _ _ reply.next (becomes call (waits_for_connect (is_late (now - opened.at)) opened between reply is.1) (swept call 256 old new now is.0)) (λ p b. b, λ e f c. c)
    reacted (Unconnected opened) inputs.EndOfInput old new number now between reply is = idle old new number now _ _ reply.next (still call old new (ap own_places is.0.over) is.1) (λ p b. b, λ e f c. c)
    reacted (Unconnected opened) inputs.Closing old new number now between reply is = idle old new number now _ _ reply.next (still call old new (ap own_places is.0.over) is.1) (λ p b. b, λ e f c. c)
    reacted (Waiting request ticks) (inputs.Packet packet) old new number now between reply is = absurd is
    reacted (Waiting request ticks) (inputs.Fault fault) old new number now between reply is = absurd is
    reacted (Waiting request ticks) inputs.Tick old new number now between reply is =
        idle old new number now _ _ reply.next (behind call old is.0 new (swept call 256 old is.0 now is.1) (tried_again call is.0 new number now request ticks between reply is.2)) (λ p b. b, λ e f c. c)
    reacted (Waiting request ticks) inputs.EndOfInput old new number now between reply is = idle old new number now _ _ reply.next (becomes call (ap own_places is.1.over) (one call old new _ is.0 refl refl refl refl)) (λ p b. b, λ e f c. c)
    reacted (Waiting request ticks) inputs.Closing old new number now between reply is = idle old new number now _ _ reply.next (becomes call (ap own_places is.1.over) (one call old new _ is.0 refl refl refl refl)) (λ p b. b, λ e f c. c)
    reacted (Connected connected) (inputs.Packet packet) old new number now between reply is =
        earlier old is.1 new number now (Connected connected) (inputs.Packet packet) reply.next (beside call (own_places (Connected connected)) (one call old is.1 _ is.2 refl refl refl refl))
        (packet_answered is.0 is.1 new number now connected packet between reply is.3)
    reacted (Connected connected) (inputs.Fault fault) old new number now between reply is = idle old new number now _ _ reply.next (becomes call (ap own_places is.1.1) (parted call old new connected.session now is.1.0)) (λ p b. b, λ e f c. c)
    reacted (Connected connected) inputs.Tick old new number now between reply is =
        idle old new number now _ _ reply.next
        (behind call old is.1 new (beside call (own_places (Connected connected)) (one call old is.1 _ is.2 refl refl refl refl)) (tick_answered is.0 is.1 new connected now between reply is.3))
        (λ p b. b, λ e f c. c)
    reacted (Connected connected) inputs.EndOfInput old new number now between reply is = idle old new number now _ _ reply.next (becomes call (ap own_places is.1.1) (parted call old new connected.session now is.1.0)) (λ p b. b, λ e f c. c)
    reacted (Connected connected) inputs.Closing old new number now between reply is = idle old new number now _ _ reply.next (becomes call (ap own_places is.2) (one call old new _ is.1 refl refl refl refl)) (λ p b. b, λ e f c. c)
    reacted Ended input old new number now between reply is = idle old new number now _ _ reply.next (still call old new (ap own_places is.0.over) is.1) (λ p b. b, λ e f c. c)

    -- what is handed out after it
    pub handed_behind : (between : ConnPhase P) (now : ℕ) (old new : S) (sent : List Packet) (phase : ConnPhase P) → Hands call slot_of old between now sent phase new → HandsBehind now sent between old phase new
    handed_behind (Unconnected opened) now old new sent phase hands = none_behind_it now (Unconnected opened) old new sent phase hands
    handed_behind (Waiting request ticks) now old new sent phase hands = none_behind_it now (Waiting request ticks) old new sent phase hands
    handed_behind (Connected connected) now old new sent phase hands =
        let out = handed_out call (hand_out_terms connected now) old new connected.session.membership connected.session.window sent hands.0 hands.1 hands.2 in
        subst (λ after. HandsBehind now sent (Connected connected) old after new) (sym hands.3)
        (record {
          outcomes = out.outcomes;
          calls = plain_calls call (hand_outs_of out.outcomes) old new out.calls;
          fit = out.fit;
          contents = out.contents;
          to_one =
              ⊎_elim
              (λ (none : handed out.calls.supply_calls ≡ []). inl none)
              (λ (one : AsksOnlyFor (place_in connected.session.membership) out.calls.supply_calls hands.0). inr (one.0, one.1, one.2, one.4, one.5, one.3)) out.to_one;
        })
    handed_behind Ended now old new sent phase hands = none_behind_it now Ended old new sent phase hands

    pub stepped : (old new : S) (number now : ℕ) (phase phase' : ConnPhase P) (input : Input) (packets : List Packet) (next : Then)
        → Steps call slot_of old number phase now input packets next phase' new → StepCalls call old number phase now input packets next phase' new
    stepped old new number now phase phase' input packets next steps =
        let before = reacted phase input old steps.mid number now steps.between steps.reply steps.reacts in
        let behind = handed_behind steps.between now steps.mid new steps.sent phase' steps.hands in
        let none_earlier = before.hands in
        let both = before.supply_calls ++ behind.calls.supply_calls in
        let all = subst (λ n. All (hand_outs_of behind.outcomes) (discards_of behind.outcomes) old number now phase input n phase' new) (sym steps.followed)
        (record {
          calls = further (hand_outs_of behind.outcomes) old steps.mid new number now phase input steps.reply.next before behind.calls;
          hands_last =
              ⊎_elim
              (λ (none : handed behind.calls.supply_calls ≡ []).
              record { earlier = both; last = []; both = sym (append-nil both); none_earlier = none_behind hand_out_of before.supply_calls behind.calls.supply_calls [] none_earlier none; to_one = inl refl })
              (λ (one : (place place' : P) × (own_places steps.between ≡ place ∷ []) × KeepsInTurn (place ∷ []) behind.calls.supply_calls (place' ∷ []) × AllByRecursion AsksForMessage behind.calls.supply_calls
              × IsMemberWith phase' place').
              record {
                earlier = before.supply_calls;
                last = behind.calls.supply_calls;
                both = refl;
                none_earlier = none_earlier;
                to_one = inr (one.0, one.1, subst (KeepsPlaces (own_places phase) before.supply_calls) one.2 before.places, one.3, one.4, one.5);
              })
              behind.to_one;
        }) in
        record {
          supply_calls = all.calls.supply_calls;
          made = all.calls.made;
          offers = all.calls.offers;
          outcomes = behind.outcomes;
          handed_out = all.calls.hands;
          fit = behind.fit;
          settles = all.calls.settles;
          hands =
              ap fresh_contents steps.written
              ∙ replied_and_sent call slot_of phase input old steps.mid number now steps.between steps.reply steps.sent steps.reacts
              ∙ behind.contents;
          hands_last = all.hands_last;
          places = all.calls.places;
        }
