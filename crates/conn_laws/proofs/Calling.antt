-- Calls one after the other, by which nothing is offered and nothing is settled, and what they hand out.
use Rattle.std.proofs.Common.{◌≡◌, ℕ, Bool, true, false, List, [], ◌∷◌, ◌++◌, filter_map, Option, None, Result, Ok, Err, refl, sym, ap, subst, ◌∙◌, inl, inr, nat_lt}
use Rattle.std.proofs.lemmas.List.Elements.{filter_map-append}
use Rattle.mqtt_packet.specs.declared.packet.Subscribe.{Subscribe}
use Rattle.mqtt_packet.specs.declared.packet.Subscription.{Subscription}
use Rattle.mqtt_packet.specs.declared.packet.Unsubscribe.{Unsubscribe}
use Rattle.users.specs.Table.{Rights}
use Rattle.group_jobs.specs.Stamps.{Held, under}
use Rattle.group_jobs.specs.declared.fate.Fate.{Fate}
use Rattle.member_window.specs.Contents.{Contents, after_put}
use Rattle.session_desk.specs.Everything.{place_in, place_of, places_given}
use Rattle.session_desk.specs.declared.attached.Attached.{Attached}
use Rattle.session_desk.specs.declared.attached.Attached.TheVariants.{New, Resumed, Replace, Busy}
use Rattle.session_desk.specs.declared.error.DeskError.{DeskError}
use Rattle.session_desk.specs.declared.error.DeskError.TheVariants as errors
use Rattle.session_desk.specs.declared.session.Session.{Session}
use Rattle.session_desk.specs.declared.session.Membership.{Membership}
use Rattle.conn_rules.specs.declared.hand_outs.HandOutTerms.{HandOutTerms}
use Rattle.conn_supply.specs.declared.reply.Reply.{Reply}
use Rattle.conn_supply.specs.SupplyCalls.{SupplyCall}
use Rattle.conn_supply.specs.HandOuts.{IsRefused, IsCutShort, TakesOne, TakesSome, HandsSome}
use Rattle.conn_supply.specs.Subscribing.{AnswersSome, SubscribesAs, UnsubscribesAs}
use Rattle.conn_engine.specs.declared.phase.ConnectRequest.{ConnectRequest}
use Rattle.conn_engine.specs.declared.phase.ConnPhase.{ConnPhase}
use Rattle.conn_engine.specs.Connecting.{opened, holds_message_too_long, most_ticks, RetiresEarlier, WaitsAs, ResumesAs, AttachedAs, Attaches, FailsWith, FailsToAttach, TriesAgain, FailsAgain}
use Rattle.conn_engine.specs.Ending.{Parts, Sweeps}
use Rattle.conn_laws.specs.Calls.{offer_of, match_of, settlement_of, hand_out_of, offered, matched, settled, handed, Outcome, hand_outs_of, discards_of, MakesAll}
use Rattle.conn_laws.specs.Places.{own_places, places_brought, places_taken, KeepsPlaces}
use Rattle.conn_laws.proofs.KeptPlaces.{kept_by_none, kept_by_one, kept_by_both, kept_beside, kept_behind}
use Rattle.conn_laws.proofs.Aside.{Aside, none_in_both}
use Rattle.conn_laws.proofs.Aside as asides
use Rattle.conn_laws.proofs.HandingOut as hand_outs

module _ {S P : Type 0} (call : S → SupplyCall P → S → Type 0) where
  pub joins : (supply_calls others : List (SupplyCall P)) (old mid new : S) → MakesAll call old supply_calls mid → MakesAll call mid others new → MakesAll call old (supply_calls ++ others) new
  joins supply_calls others old mid new these those = asides.joins call supply_calls others old mid new these those

  -- calls by which nothing is offered, no topic is matched, these messages are handed out, and those settled; before them there were these places, and after them there
  -- are those
  pub record Plain (given : List (P × Held)) (thrown : List (Held × Fate)) (before after : List P) (old new : S) : Type 0 where
    pub supply_calls : List (SupplyCall P)
    pub made : MakesAll call old supply_calls new
    pub match : matched supply_calls ≡ []
    pub offers : offered supply_calls ≡ []
    pub settles : settled supply_calls ≡ thrown
    pub hands : handed supply_calls ≡ given
    pub places : KeepsPlaces before supply_calls after

  -- the places after them, said otherwise
  pub becomes : {given : List (P × Held)} {thrown : List (Held × Fate)} {before after after' : List P} {old new : S} → after' ≡ after → Plain given thrown before after old new → Plain given thrown before after' old new
  becomes {given} {thrown} {before} {after} {after'} {old} {new} same calls = subst (λ places. Plain given thrown before places old new) (sym same) calls

  -- there are other places, to which nothing happens
  pub beside : {given : List (P × Held)} {thrown : List (Held × Fate)} {before after : List P} {old new : S} (others : List P) → Plain given thrown before after old new → Plain given thrown (before ++ others) (after ++ others) old new
  beside {given} {thrown} {before} {after} others calls =
      record {
        supply_calls = calls.supply_calls;
        made = calls.made;
        match = calls.match;
        offers = calls.offers;
        settles = calls.settles;
        hands = calls.hands;
        places = kept_beside others before after calls.supply_calls calls.places;
      }

  pub still : {before after : List P} (old new : S) → after ≡ before → new ≡ old → Plain [] [] before after old new
  still {before} old new same_places same =
      becomes same_places (record { supply_calls = []; made = same; match = refl; offers = refl; settles = refl; hands = refl; places = kept_by_none before })

  -- among them those by which no session is asked for or handed in
  abbrev pub plain : {thrown : List (Held × Fate)} {before after : List P} (given : List (P × Held)) (old new : S) → Aside call given thrown before after old new → Plain given thrown before after old new
  plain given old new calls =
      record {
        supply_calls = calls.supply_calls;
        made = calls.made;
        match = calls.match;
        offers = calls.offers;
        settles = calls.settles;
        hands = calls.hands;
        places = calls.places;
      }

  pub one : (old new : S) (supply_call : SupplyCall P) → call old supply_call new → match_of supply_call ≡ None → offer_of supply_call ≡ None → settlement_of supply_call ≡ None → hand_out_of supply_call ≡ None
      → Plain [] [] (places_taken supply_call) (places_brought supply_call) old new
  one old new supply_call called no_match no_offer no_settlement no_hand_out =
      record {
        supply_calls = supply_call ∷ [];
        made = (new, called, refl);
        match = ap (λ found. filter_map (λ (o : Option (List ℕ × List ℕ)). o) (found ∷ [])) no_match;
        offers = ap (λ found. filter_map (λ o. o) (found ∷ [])) no_offer;
        settles = ap (λ found. filter_map (λ o. o) (found ∷ [])) no_settlement;
        hands = ap (λ found. filter_map (λ (o : Option (P × Held)). o) (found ∷ [])) no_hand_out;
        places = kept_by_one supply_call;
      }

  pub after : {thrown discards : List (Held × Fate)} {before between behind : List P} (given more : List (P × Held)) (old mid new : S) → Plain given thrown before between old mid
      → Plain more discards between behind mid new → Plain (given ++ more) (thrown ++ discards) before behind old new
  after {thrown} {discards} {before} {between} {behind} given more old mid new these those =
      record {
        supply_calls = these.supply_calls ++ those.supply_calls;
        made = joins these.supply_calls those.supply_calls old mid new these.made those.made;
        match = none_in_both match_of these.supply_calls those.supply_calls these.match those.match;
        offers = none_in_both offer_of these.supply_calls those.supply_calls these.offers those.offers;
        settles = filter_map-append settlement_of these.supply_calls those.supply_calls ∙ (λ i. these.settles i ++ those.settles i);
        hands = filter_map-append hand_out_of these.supply_calls those.supply_calls ∙ (λ i. these.hands i ++ those.hands i);
        places = kept_by_both before between behind these.supply_calls those.supply_calls these.places those.places;
      }

  pub behind : {before between after : List P} (old mid new : S) → Plain [] [] before between old mid → Plain [] [] between after mid new → Plain [] [] before after old new
  behind old mid new these those = after [] [] old mid new these those

  -- a session ends
  pub parted : (old new : S) (session : Session Held P) (now : ℕ) → Parts call old session now new → Plain [] [] (place_in session.membership) [] old new
  parted old new session now parts = behind old parts.1 new (one old parts.1 _ parts.2 refl refl refl refl) (plain [] parts.1 new (asides.parted_as call parts.0 parts.1 new parts.3))

  pub swept : (most : ℕ) (old new : S) (now : ℕ) → Sweeps call old now most new → Plain [] [] [] [] old new
  swept most old new now sweeps = plain [] old new (asides.swept call most old new now sweeps)

  -- a session is asked for
  resumed_as : (no : Bool) (old new : S) (request : ConnectRequest) (session : Session Held P) (phase : ConnPhase P) (reply : Reply)
      → ResumesAs call no old request session phase reply new → Plain [] [] (place_in session.membership) (own_places phase) old new
  resumed_as true old new request session phase reply resumes = becomes (ap own_places resumes.1.over) (one old new _ resumes.0 refl refl refl refl)
  resumed_as false old new request session phase reply resumes = still old new (ap own_places resumes.1.begun) resumes.0

  -- a session that a client had is retired, and the new one keeps its place
  replaced : (session : Option (Session Held P)) (places : List P) (old new : S) → RetiresEarlier call old session new → Plain [] [] (places ++ place_of session) places old new
  replaced session places old new retires =
      let calls = asides.retired_earlier call session old new retires in
      record {
        supply_calls = calls.supply_calls;
        made = calls.made;
        match = calls.match;
        offers = calls.offers;
        settles = calls.settles;
        hands = calls.hands;
        places = kept_behind places (place_of session) calls.supply_calls calls.places;
      }

  waits_as : (fewer : Bool) (request : ConnectRequest) (ticks : ℕ) (phase : ConnPhase P) (reply : Reply) → WaitsAs fewer request ticks phase reply → own_places phase ≡ []
  waits_as true request ticks phase reply waits = ap own_places waits.0
  waits_as false request ticks phase reply refused = ap own_places refused.over

  attached_as : (answer : Result (Attached Held P) DeskError) (old new : S) (request : ConnectRequest) (ticks : ℕ) (phase : ConnPhase P) (reply : Reply)
      → AttachedAs call old request ticks answer phase reply new → Plain [] [] (places_given answer) (own_places phase) old new
  attached_as (Ok (New session before)) old new request ticks phase reply answered =
      becomes (ap own_places answered.1.begun) (replaced before (place_in session.membership) old new answered.0)
  attached_as (Ok (Resumed session)) old new request ticks phase reply answered =
      resumed_as (holds_message_too_long request.terms.maximum_packet_size session.window) old new request session phase reply answered
  attached_as (Ok (Replace holder)) old new request ticks phase reply answered =
      still old new (waits_as (nat_lt ticks most_ticks) request ticks phase reply answered.0) answered.1
  attached_as (Ok Busy) old new request ticks phase reply answered = still old new (ap own_places answered.0.over) answered.1
  attached_as (Err errors.Full) old new request ticks phase reply answered = still old new (ap own_places answered.0.over) answered.1
  attached_as (Err errors.NoPlace) old new request ticks phase reply answered = still old new (ap own_places answered.0.over) answered.1
  attached_as (Err errors.NoName) old new request ticks phase reply answered = still old new (ap own_places answered.0.over) answered.1
  attached_as (Err errors.Memory) old new request ticks phase reply answered = absurd answered

  pub attached : (old new : S) (number now : ℕ) (request : ConnectRequest) (ticks : ℕ) (phase : ConnPhase P) (reply : Reply)
      → Attaches call old number now request ticks phase reply new → Plain [] [] [] (own_places phase) old new
  attached old new number now request ticks phase reply attaches =
      behind old attaches.mid new (one old attaches.mid _ attaches.asked_for refl refl refl refl) (attached_as attaches.answer attaches.mid new request ticks phase reply attaches.answered)

  failed_with : (answer : Result (Attached Held P) DeskError) (old new : S) (now : ℕ) (request : ConnectRequest) → FailsWith call old now request answer new → Plain [] [] (places_given answer) [] old new
  failed_with (Ok (New session before)) old new now request fails =
      behind old fails.0 new (replaced before (place_in session.membership) old fails.0 fails.1) (parted fails.0 new (opened session request.terms) now fails.2)
  failed_with (Ok (Resumed session)) old new now request fails = parted old new (opened session request.terms) now fails
  failed_with (Ok (Replace holder)) old new now request fails = absurd fails
  failed_with (Ok Busy) old new now request fails = absurd fails
  failed_with (Err errors.Full) old new now request fails = absurd fails
  failed_with (Err errors.NoPlace) old new now request fails = absurd fails
  failed_with (Err errors.NoName) old new now request fails = absurd fails
  failed_with (Err errors.Memory) old new now request fails = still old new refl fails

  pub failed_to_attach : (old new : S) (number now : ℕ) (request : ConnectRequest) → FailsToAttach call old number now request new → Plain [] [] [] [] old new
  failed_to_attach old new number now request fails =
      behind old fails.mid new (one old fails.mid _ fails.asked_for refl refl refl refl) (failed_with fails.answer fails.mid new now request fails.failed)

  pub tried_again : (old new : S) (number now : ℕ) (request : ConnectRequest) (ticks : ℕ) (phase : ConnPhase P) (reply : Reply)
      → TriesAgain call old number now request ticks phase reply new → Plain [] [] [] (own_places phase) old new
  tried_again old new number now request ticks phase reply tries =
      behind old tries.mid new (attached old tries.mid number now request _ phase reply tries.attaches)
      (beside (own_places phase) (plain [] tries.mid new (asides.withdrawn call phase tries.mid new number tries.withdraws)))

  pub failed_again : (old new : S) (number now : ℕ) (request : ConnectRequest) → FailsAgain call old number now request new → Plain [] [] [] [] old new
  failed_again old new number now request fails =
      behind old fails.mid new (failed_to_attach old fails.mid number now request fails.failed) (one fails.mid new _ fails.withdrawn refl refl refl refl)

  refused : (old new : S) (place place' : P) → IsRefused call old place place' new → Plain [] [] (place ∷ []) (place' ∷ []) old new
  refused old new place place' (inl at_once) = one old new _ at_once.1 refl refl refl refl
  refused old new place place' (inr later) =
      behind old later.2 new (one old later.2 _ later.3 refl refl refl refl) (one later.2 new _ later.4 refl refl refl refl)

  -- calls by which something may be handed out, and of that some discarded
  abbrev pub HandsSomething : List P → List P → S → S → Type 0
  HandsSomething before after old new = (outcomes : List (Outcome P)) × Plain (hand_outs_of outcomes) (discards_of outcomes) before after old new

  -- one after the other
  pub hands_on : {before between behind : List P} (these those : List (Outcome P)) (old mid new : S) → Plain (hand_outs_of these) (discards_of these) before between old mid
      → Plain (hand_outs_of those) (discards_of those) between behind mid new → HandsSomething before behind old new
  hands_on {before} {between} {behind} these those old mid new first last = (
    these ++ those,
    subst (λ (hands : List (P × Held)). Plain hands (discards_of (these ++ those)) before behind old new) (sym (hand_outs.hands_of_both these those))
        (subst (λ (discards : List (Held × Fate)). Plain (hand_outs_of these ++ hand_outs_of those) discards before behind old new) (sym (hand_outs.discards_of_both these those))
        (after (hand_outs_of these) (hand_outs_of those) old mid new first last)),
  )

  -- those that ask for messages for one place
  asked : (terms : HandOutTerms) (outcomes : List (Outcome P)) (old new : S) (place place' : P) → hand_outs.Asks call terms outcomes old place place' new
      → Plain (hand_outs_of outcomes) (discards_of outcomes) (place ∷ []) (place' ∷ []) old new
  asked terms outcomes old new place place' asks = plain (hand_outs_of outcomes) old new asks.calls.calls

  one_taken : (terms : HandOutTerms) (envelope : Held) (old new : S) (place place' : P) → TakesOne call terms old place envelope place' new → HandsSomething (place ∷ []) (place' ∷ []) old new
  one_taken terms envelope old new place place' takes =
      let before = hand_outs.discarded_all call terms takes.discarded old takes.mid place takes.between takes.passed in
      let last = hand_outs.some_asked call terms envelope takes.mid new takes.between place' takes.asked in
      let both =
      hand_outs.asks_on call terms [] _ takes.mid takes.mid new takes.between takes.between place' (hand_outs.may_take call terms takes.mid takes.between true takes.allowed) last.1 in
      hands_on before.outcomes ([] ++ record { hand_out = (last.0, envelope); sent = true } ∷ []) old takes.mid new (asked terms before.outcomes old takes.mid place takes.between before.asks)
      (asked terms ([] ++ record { hand_out = (last.0, envelope); sent = true } ∷ []) takes.mid new takes.between place' both)

  cut_short : (terms : HandOutTerms) (old new : S) (place place' : P) → IsCutShort call terms old place place' new → HandsSomething (place ∷ []) (place' ∷ []) old new
  cut_short terms old new place place' cut =
      let before = hand_outs.discarded_all call terms cut.discarded old cut.mid place cut.between cut.passed in
      hands_on before.outcomes [] old cut.mid new (asked terms before.outcomes old cut.mid place cut.between before.asks)
      (behind cut.mid cut.mid new (asked terms [] cut.mid cut.mid cut.between cut.between (hand_outs.may_take call terms cut.mid cut.between true cut.allowed)) (refused cut.mid new cut.between place' cut.refused))

  some_taken : (terms : HandOutTerms) (envelopes : List Held) (old new : S) (place place' : P) (window window' : Contents Held) → TakesSome call terms old place window envelopes place' window' new
      → HandsSomething (place ∷ []) (place' ∷ []) old new
  some_taken terms [] old new place place' window window' (same, inl none) = ([], still old new (ap (λ p. p ∷ []) none.0) none.1)
  some_taken terms [] old new place place' window window' (same, inr cut) = cut_short terms old new place place' cut.1
  some_taken terms (envelope ∷ envelopes) old new place place' window window' takes =
      let first = one_taken terms envelope old takes.2 place takes.1 takes.3 in
      let later = some_taken terms envelopes takes.2 new takes.1 place' (after_put window takes.0 (under terms.subscription envelope)) window' takes.6 in
      hands_on first.0 later.0 old takes.2 new first.1 later.1

  pub handed_some : (terms : HandOutTerms) (old new : S) (membership : Membership P) (window : Contents Held) (membership' : Membership P) (window' : Contents Held)
      → HandsSome call terms old membership window membership' window' new → HandsSomething (place_in membership) (place_in membership') old new
  handed_some terms old new membership window membership' window' (inl none) = ([], still old new (ap place_in none.2) none.3)
  handed_some terms old new membership window membership' window' (inr some) =
      let calls = some_taken terms some.3 old new some.0 some.1 some.2 window' some.7 in
      subst (λ places. HandsSomething places (place_in membership') old new) (sym (ap place_in some.4)) (calls.0, becomes (ap place_in some.5) calls.1)

  -- shares are joined and left
  module _ (slot_of : P → ℕ) where
    pub subscribed_as : (rights : Rights) (refused : Option ℕ) (old new : S) (membership : Membership P) (subscription : Option ℕ) (subscribe : Subscribe) (reply : Reply) (membership' : Membership P) (subscription' : Option ℕ)
        → SubscribesAs call slot_of refused rights old membership subscription subscribe reply membership' subscription' new → Plain [] [] (place_in membership) (place_in membership') old new
    subscribed_as rights refused old new membership subscription subscribe reply membership' subscription' does =
        plain [] old new (asides.subscribed_as call slot_of rights refused old new membership subscription subscribe reply membership' subscription' does)

    pub unsubscribed_as : (refused : Option ℕ) (old new : S) (membership : Membership P) (unsubscribe : Unsubscribe) (reply : Reply) (membership' : Membership P)
        → UnsubscribesAs call slot_of refused old membership unsubscribe reply membership' new → Plain [] [] (place_in membership) (place_in membership') old new
    unsubscribed_as refused old new membership unsubscribe reply membership' does =
        plain [] old new (asides.unsubscribed_as call slot_of refused old new membership unsubscribe reply membership' does)

    pub some_answered : (rights : Rights) (old new : S) (subscriptions : List Subscription) (membership membership' : Membership P)
        → AnswersSome call slot_of rights old membership subscriptions membership' new → Plain [] [] (place_in membership) (place_in membership') old new
    some_answered rights old new subscriptions membership membership' answers =
        plain [] old new (asides.some_answered call slot_of rights old new subscriptions membership membership' answers)
