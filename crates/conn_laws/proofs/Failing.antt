-- A step that wants memory is a list of calls.
use Rattle.std.proofs.Common.{◌≡◌, ℕ, List, [], ◌∷◌, ◌++◌, map, Result, refl, sym, ap, subst, ◌∙◌, append-nil, inl, inr, ⊎_elim, true}
use Rattle.mqtt_packet.specs.declared.packet.Packet.{Packet}
use Rattle.mqtt_packet.specs.declared.packet.Packet.TheVariants as packets
use Rattle.mqtt_packet.specs.declared.packet.Publish.{Publish}
use Rattle.group_jobs.specs.declared.message.Message.{Message}
use Rattle.group_jobs.specs.declared.stamp.Stamp.{Stamp}
use Rattle.conn_rules.specs.Publishing.{message_of}
use Rattle.conn_supply.specs.declared.reply.Then.{Then}
use Rattle.conn_supply.specs.declared.supply.OfferRefusal.{OfferRefusal}
use Rattle.conn_supply.specs.SupplyCalls.{SupplyCall}
use Rattle.conn_supply.specs.SupplyCalls.SupplyCall.{Match, Offer}
use Rattle.conn_engine.specs.declared.input.Input.{Input}
use Rattle.conn_engine.specs.declared.input.Input.TheVariants as inputs
use Rattle.conn_engine.specs.declared.phase.ConnectedClient.{ConnectedClient}
use Rattle.conn_engine.specs.declared.phase.ConnPhase.{ConnPhase}
use Rattle.conn_engine.specs.declared.phase.ConnPhase.TheVariants.{Unconnected, Waiting, Connected, Ended}
use Rattle.conn_engine.specs.Answering.{FailsToAnswer}
use Rattle.conn_laws.specs.Places.{own_places, KeepsPlaces}
use Rattle.conn_laws.specs.Calls.{is_allowed, offer_of, match_of, settlement_of, offered, matched, settled, hand_out_of, handed, Outcome, hand_outs_of, discards_of, MakesAll, OffersToEach, OffersNone, SettlesOne, SettlesNone, OffersToSome, FailedCalls}
use Rattle.conn_supply.specs.Publishing.{OffersFirst, OffersSome, IsCutShort}
use Rattle.conn_engine.specs.Step.{hearing, after_hand_out, hand_out_terms, GivesUp, ShutsDown, CutsOff, FailsToReact, HandsLess, FailsToHand, FailsToStep}
use Rattle.conn_laws.proofs.KeptPlaces.{kept_by_none, kept_by_one, kept_by_both, kept_beside}
use Rattle.conn_laws.proofs.Calling.{Plain, HandsSomething, hands_on, beside, still, one, behind, joins, parted, swept, failed_to_attach, failed_again, handed_some, some_answered}
use Rattle.conn_laws.proofs.Ended.{last_over}
use Rattle.conn_laws.proofs.Stepping.{Walked, none_behind, none_before, further, reacted}

module _ {S P : Type 0} (call : S → SupplyCall P → S → Type 0) where
  plain : (outcomes : List (Outcome P)) (old new : S) (number now : ℕ) (phase : ConnPhase P) (input : Input) → Plain call (hand_outs_of outcomes) (discards_of outcomes) (own_places phase) [] old new
      → FailedCalls call old number phase now input new
  plain outcomes old new number now phase input calls =
      record {
        supply_calls = calls.supply_calls;
        made = calls.made;
        offers = inr calls.offers;
        outcomes = outcomes;
        handed_out = calls.hands;
        settles = inr calls.settles;
        places = calls.places;
      }

  some_of : (number now : ℕ) (phase : ConnPhase P) (input : Input) (supply_calls : List (SupplyCall P)) → OffersToEach number now phase input supply_calls → OffersToSome number now phase input supply_calls
  some_of number now phase input supply_calls each =
      record {
        publish = each.publish;
        came = each.came;
        allowed = each.allowed;
        slots = each.slots;
        others = [];
        match = each.match ∙ ap (λ slots. (each.publish.topic, slots) ∷ []) (sym (append-nil each.slots));
        offers = each.offers;
      }

  -- what holds of the calls of a step
  stepped : (outcomes : List (Outcome P)) (old new : S) (number now : ℕ) (phase : ConnPhase P) (input : Input) (next : Then)
      → Walked call (hand_outs_of outcomes) (discards_of outcomes) old number now phase input next [] new → FailedCalls call old number phase now input new
  stepped outcomes old new number now phase input next calls =
      record {
        supply_calls = calls.supply_calls;
        made = calls.made;
        offers =
            ⊎_elim
            (λ (each : OffersToEach number now phase input calls.supply_calls). inl (some_of number now phase input calls.supply_calls each))
            (λ (none : OffersNone phase input calls.supply_calls next). inr none.offers)
            calls.offers;
        outcomes = outcomes;
        handed_out = calls.hands;
        settles =
            ⊎_elim
            (λ (only : SettlesOne phase input calls.supply_calls (discards_of outcomes)). inl only)
            (λ (none : SettlesNone phase input calls.supply_calls next (discards_of outcomes)). inr none.settles)
            calls.settles;
        places = calls.places;
      }

  -- a message is offered to some of these groups, from the first on
  record OffersPart (old : S) (number : ℕ) (message : Message) (slots : List ℕ) (new : S) : Type 0 where
    these : List ℕ
    others : List ℕ
    parts : slots ≡ these ++ others
    supply_calls : List (SupplyCall P)
    made : MakesAll call old supply_calls new
    match : matched supply_calls ≡ []
    offers : offered supply_calls ≡ map (λ slot. (slot, number, message)) these
    settles : settled supply_calls ≡ []
    hands : handed supply_calls ≡ []
    places : KeepsPlaces [] supply_calls []

  none_of : (slots : List ℕ) (old new : S) (number : ℕ) (message : Message) → new ≡ old → OffersPart old number message slots new
  none_of slots old new number message same =
      record { these = []; others = slots; parts = refl; supply_calls = []; made = same; match = refl; offers = refl; settles = refl; hands = refl; places = kept_by_none [] }

  -- that has no memory for it
  last_of : (slot : ℕ) (slots : List ℕ) (old new : S) (number : ℕ) (message : Message) (answer : Result Stamp OfferRefusal) → call old (Offer slot number message answer) new
      → OffersPart old number message (slot ∷ slots) new
  last_of slot slots old new number message answer offers =
      let only : SupplyCall P = Offer slot number message answer in
      record {
        these = slot ∷ [];
        others = slots;
        parts = refl;
        supply_calls = only ∷ [];
        made = (new, offers, refl);
        match = refl;
        offers = refl;
        settles = refl;
        hands = refl;
        places = kept_by_one only;
      }

  one_and : (slot : ℕ) (slots : List ℕ) (old mid new : S) (number : ℕ) (message : Message) (answer : Result Stamp OfferRefusal) → call old (Offer slot number message answer) mid
      → OffersPart mid number message slots new → OffersPart old number message (slot ∷ slots) new
  one_and slot slots old mid new number message answer offers rest =
      let first : SupplyCall P = Offer slot number message answer in
      record {
        these = slot ∷ rest.these;
        others = rest.others;
        parts = ap (λ l. slot ∷ l) rest.parts;
        supply_calls = first ∷ rest.supply_calls;
        made = (mid, offers, rest.made);
        match = rest.match;
        offers = ap (λ l. (slot, number, message) ∷ l) rest.offers;
        settles = rest.settles;
        hands = rest.hands;
        places = kept_by_both [] [] [] (first ∷ []) rest.supply_calls (kept_by_one first) rest.places;
      }

  first_of : (slots : List ℕ) (old new : S) (number : ℕ) (message : Message) → OffersFirst call old number message slots new → OffersPart old number message slots new
  first_of [] old new number message offers = absurd offers
  first_of (slot ∷ slots) old new number message (inl last) = last_of slot slots old new number message _ last
  first_of (slot ∷ slots) old new number message (inr offers) =
      one_and slot slots old offers.1 new number message offers.0 offers.3 (first_of slots offers.1 new number message offers.5)

  part_of : (slots : List ℕ) (old new : S) (number : ℕ) (message : Message) → OffersSome call old number message slots new → OffersPart old number message slots new
  part_of slots old new number message (inl none) = none_of slots old new number message none
  part_of slots old new number message (inr offers) = first_of slots old new number message offers

  -- a PUBLISH that was cut short, with calls by which nothing is offered before and after it
  cut_short : (old before after new : S) (number now : ℕ) (phase : ConnPhase P) (publish : Publish) → Plain call [] [] (own_places phase) (own_places phase) old before
      → IsCutShort call before number now publish after → is_allowed phase publish ≡ true → Plain call [] [] (own_places phase) [] after new
      → FailedCalls call old number phase now (inputs.Packet (packets.Publish publish)) new
  cut_short old before after new number now phase publish first cut allowed last =
      let part = part_of cut.slots cut.mid after number (message_of now publish) cut.offered in
      let match : SupplyCall P = Match publish.topic cut.slots in
      let these = match ∷ part.supply_calls in
      let made = joins call these last.supply_calls before after new (cut.mid, cut.matched, part.made) last.made in
      let places = kept_beside (own_places phase) [] [] these (kept_by_both [] [] [] (match ∷ []) part.supply_calls (kept_by_one match) part.places) in
      record {
        supply_calls = first.supply_calls ++ (these ++ last.supply_calls);
        made = joins call first.supply_calls (these ++ last.supply_calls) old before new first.made made;
        offers = inl (record {
          publish = publish;
          came = refl;
          allowed = allowed;
          slots = part.these;
          others = part.others;
          match =
              none_before match_of first.supply_calls (these ++ last.supply_calls) _ first.match (none_behind match_of these last.supply_calls _ (ap (λ l. (publish.topic, cut.slots) ∷ l) part.match) last.match)
              ∙ ap (λ slots. (publish.topic, slots) ∷ []) part.parts;
          offers = none_before offer_of first.supply_calls (these ++ last.supply_calls) _ first.offers (none_behind offer_of these last.supply_calls _ part.offers last.offers);
        });
        outcomes = [];
        handed_out = none_before hand_out_of first.supply_calls (these ++ last.supply_calls) _ first.hands (none_behind hand_out_of these last.supply_calls _ part.hands last.hands);
        settles = inr (none_before settlement_of first.supply_calls (these ++ last.supply_calls) _ first.settles (none_behind settlement_of these last.supply_calls _ part.settles last.settles));
        places =
            kept_by_both (own_places phase) (own_places phase) [] first.supply_calls (these ++ last.supply_calls) first.places
            (kept_by_both (own_places phase) (own_places phase) [] these last.supply_calls places last.places);
      }

  module _ (slot_of : P → ℕ) where
    given_up : (phase : ConnPhase P) (old new : S) (number now : ℕ) → GivesUp call slot_of old number phase now new → Plain call [] [] (own_places phase) [] old new
    given_up (Unconnected opened) old new number now gives = still call old new refl gives
    given_up (Waiting request ticks) old new number now gives = one call old new _ gives refl refl refl refl
    given_up (Connected connected) old new number now gives = parted call old new connected.session now gives
    given_up Ended old new number now gives = still call old new refl gives

    shut_down : (phase : ConnPhase P) (old new : S) (number : ℕ) → ShutsDown call slot_of old number phase new → Plain call [] [] (own_places phase) [] old new
    shut_down (Unconnected opened) old new number shuts = still call old new refl shuts
    shut_down (Waiting request ticks) old new number shuts = one call old new _ shuts refl refl refl refl
    shut_down (Connected connected) old new number shuts = one call old new _ shuts refl refl refl refl
    shut_down Ended old new number shuts = still call old new refl shuts

    cut_off : (input : Input) (phase : ConnPhase P) (old new : S) (number now : ℕ) → CutsOff call slot_of old number phase now input new → Plain call [] [] (own_places phase) [] old new
    cut_off (inputs.Packet packet) phase old new number now cuts = given_up phase old new number now cuts
    cut_off (inputs.Fault fault) phase old new number now cuts = given_up phase old new number now cuts
    cut_off inputs.Tick phase old new number now cuts = given_up phase old new number now cuts
    cut_off inputs.EndOfInput phase old new number now cuts = given_up phase old new number now cuts
    cut_off inputs.Closing phase old new number now cuts = shut_down phase old new number cuts

    -- the calls after an answer, of a connection that this is
    later : (connected' connected : ConnectedClient P) (old new : S) → connected' ≡ connected → Plain call [] [] (own_places (Connected connected')) [] old new
        → Plain call [] [] (own_places (Connected connected)) [] old new
    later connected' connected old new is calls = subst (λ (connected : ConnectedClient P). Plain call [] [] (own_places (Connected connected)) [] old new) is calls

    -- an allocation failed for the answer to a packet
    failed_to_answer : (packet : Packet) (old before after new : S) (number now : ℕ) (connected connected' : ConnectedClient P)
        → Plain call [] [] (own_places (Connected connected)) (own_places (Connected connected)) old before → FailsToAnswer call slot_of before number (hearing connected now) now packet connected' after
        → Plain call [] [] (own_places (Connected connected')) [] after new → FailedCalls call old number (Connected connected) now (inputs.Packet packet) new
    failed_to_answer (packets.Publish publish) old before after new number now connected connected' first fails last =
        cut_short old before after new number now (Connected connected) publish first fails.0.0 fails.0.1 (later connected' _ after new fails.1 last)
    failed_to_answer (packets.Subscribe subscribe) old before after new number now connected connected' first fails last =
        plain [] old new number now (Connected connected) _ (
        behind call old before new first (
        behind call before after new
        (some_answered call slot_of connected.rights before after subscribe.subscriptions connected.session.membership fails.0 fails.1)
        (later connected' _ after new fails.2 last)))
    failed_to_answer (packets.Unsubscribe unsubscribe) old before after new number now connected connected' first fails last =
        plain [] old new number now (Connected connected) _ (behind call old before new first (behind call before after new (still call before after refl fails.1) (later connected' _ after new fails.0 last)))
    failed_to_answer (packets.Connect connect) old before after new number now connected connected' first fails last = absurd fails
    failed_to_answer (packets.Connack connack) old before after new number now connected connected' first fails last = absurd fails
    failed_to_answer (packets.Puback puback) old before after new number now connected connected' first fails last = absurd fails
    failed_to_answer (packets.Suback suback) old before after new number now connected connected' first fails last = absurd fails
    failed_to_answer (packets.Unsuback unsuback) old before after new number now connected connected' first fails last = absurd fails
    failed_to_answer packets.Pingreq old before after new number now connected connected' first fails last = absurd fails
    failed_to_answer packets.Pingresp old before after new number now connected connected' first fails last = absurd fails
    failed_to_answer (packets.Disconnect disconnect) old before after new number now connected connected' first fails last = absurd fails
    failed_to_answer (packets.Foreign kind) old before after new number now connected connected' first fails last = absurd fails
    failed_to_answer (packets.OtherVersion version) old before after new number now connected connected' first fails last = absurd fails
    failed_to_answer packets.WithWill old before after new number now connected connected' first fails last = absurd fails

    -- an allocation failed for the reply
    failed_to_react : (phase : ConnPhase P) (input : Input) (old new : S) (number now : ℕ) → FailsToReact call slot_of old number phase now input new
        → FailedCalls call old number phase now input new
    failed_to_react (Unconnected opened) (inputs.Packet packet) old new number now fails = plain [] old new number now _ _ (failed_to_attach call old new number now _ fails.2)
    failed_to_react (Unconnected opened) (inputs.Fault fault) old new number now fails = absurd fails
    failed_to_react (Unconnected opened) inputs.Tick old new number now fails = absurd fails
    failed_to_react (Unconnected opened) inputs.EndOfInput old new number now fails = absurd fails
    failed_to_react (Unconnected opened) inputs.Closing old new number now fails = absurd fails
    failed_to_react (Waiting request ticks) inputs.Tick old new number now fails =
        plain [] old new number now _ _ (behind call old fails.0 new (swept call 256 old fails.0 now fails.1) (failed_again call fails.0 new number now request fails.2))
    failed_to_react (Waiting request ticks) (inputs.Packet packet) old new number now fails = absurd fails
    failed_to_react (Waiting request ticks) (inputs.Fault fault) old new number now fails = absurd fails
    failed_to_react (Waiting request ticks) inputs.EndOfInput old new number now fails = absurd fails
    failed_to_react (Waiting request ticks) inputs.Closing old new number now fails = absurd fails
    failed_to_react (Connected connected) (inputs.Packet packet) old new number now fails =
        let answer = fails.2 in
        failed_to_answer packet old fails.0 answer.1 new number now connected answer.0 (beside call (own_places (Connected connected)) (one call old fails.0 _ fails.1 refl refl refl refl)) answer.2
        (parted call answer.1 new answer.0.session now answer.3)
    failed_to_react (Connected connected) (inputs.Fault fault) old new number now fails = absurd fails
    failed_to_react (Connected connected) inputs.Tick old new number now fails = absurd fails
    failed_to_react (Connected connected) inputs.EndOfInput old new number now fails = absurd fails
    failed_to_react (Connected connected) inputs.Closing old new number now fails = absurd fails
    failed_to_react Ended (inputs.Packet packet) old new number now fails = absurd fails
    failed_to_react Ended (inputs.Fault fault) old new number now fails = absurd fails
    failed_to_react Ended inputs.Tick old new number now fails = absurd fails
    failed_to_react Ended inputs.EndOfInput old new number now fails = absurd fails
    failed_to_react Ended inputs.Closing old new number now fails = absurd fails

    -- an allocation failed for what is handed out
    handed_less : (between : ConnPhase P) (old new : S) (now : ℕ) → HandsLess call slot_of old between now new → HandsSomething call (own_places between) [] old new
    handed_less (Unconnected opened) old new now hands = absurd hands
    handed_less (Waiting request ticks) old new now hands = absurd hands
    handed_less (Connected connected) old new now hands =
        let some = handed_some call (hand_out_terms connected now) old hands.2 connected.session.membership connected.session.window hands.0 hands.1 hands.3 in
        hands_on call some.0 [] old hands.2 new some.1 (parted call hands.2 new (after_hand_out connected hands.0 hands.1).session now hands.4)
    handed_less Ended old new now hands = absurd hands

    pub failed : (old new : S) (number now : ℕ) (phase : ConnPhase P) (input : Input) → FailsToStep call slot_of old number phase now input new → FailedCalls call old number phase now input new
    failed old new number now phase input (inl cuts) = plain [] old new number now phase input (cut_off input phase old new number now cuts)
    failed old new number now phase input (inr fails) =
        ⊎_elim
        (λ (reply : FailsToReact call slot_of old number phase now input new). failed_to_react phase input old new number now reply)
        (λ (hand : FailsToHand call slot_of old number phase now input new).
        let some = handed_less hand.between hand.mid new now hand.hands in
        stepped some.0 old new number now phase input hand.reply.next (
        further call (hand_outs_of some.0) old hand.mid new number now phase input hand.reply.next
        (reacted call slot_of phase input old hand.mid number now hand.between hand.reply hand.reacts) some.1))
        fails

    -- at the end of the input nothing is handed out before an allocation fails
    never_reacts : (phase : ConnPhase P) (old new : S) (number now : ℕ) → FailsToReact call slot_of old number phase now inputs.EndOfInput new → ⊥
    never_reacts (Unconnected opened) old new number now fails = fails
    never_reacts (Waiting request ticks) old new number now fails = fails
    never_reacts (Connected connected) old new number now fails = fails
    never_reacts Ended old new number now fails = fails

    never_hands : (phase : ConnPhase P) (old new : S) (number now : ℕ) → FailsToHand call slot_of old number phase now inputs.EndOfInput new → ⊥
    never_hands phase old new number now fails =
        let over = last_over call slot_of phase inputs.EndOfInput old fails.mid number now fails.between fails.reply tt fails.reacts in
        subst (λ between. HandsLess call slot_of fails.mid between now new) over fails.hands

    pub failed_at_the_end : (old new : S) (number now : ℕ) (phase : ConnPhase P) → FailsToStep call slot_of old number phase now inputs.EndOfInput new
        → (calls : FailedCalls call old number phase now inputs.EndOfInput new) × (handed calls.supply_calls ≡ [])
    failed_at_the_end old new number now phase (inl cuts) =
        let calls = given_up phase old new number now cuts in (
          record {
            supply_calls = calls.supply_calls;
            made = calls.made;
            offers = inr calls.offers;
            outcomes = [];
            handed_out = calls.hands;
            settles = inr calls.settles;
            places = calls.places;
          },
          calls.hands,
        )
    failed_at_the_end old new number now phase (inr (inl fails)) = absurd (never_reacts phase old new number now fails)
    failed_at_the_end old new number now phase (inr (inr fails)) = absurd (never_hands phase old new number now fails)
