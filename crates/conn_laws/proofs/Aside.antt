-- Calls one after the other by which no session is asked for or handed in, nothing is offered; and what they hand out and settle.
use Rattle.std.proofs.Common.{◌≡◌, ℕ, Bool, true, false, List, [], ◌∷◌, ◌++◌, filter_map, Option, Some, None, Result, Ok, Err, refl, sym, ap, subst, ◌∙◌, inl, inr, ⊎_elim, zero, suc}
use Rattle.std.specs.List.{AllByRecursion}
use Rattle.std.proofs.lemmas.List.Elements.{filter_map-append}
use Rattle.mqtt_topic.specs.declared.error.TopicError.{TopicError}
use Rattle.mqtt_topic.specs.Names.{Share, share_of}
use Rattle.mqtt_packet.specs.declared.packet.Subscribe.{Subscribe}
use Rattle.mqtt_packet.specs.declared.packet.Subscription.{Subscription}
use Rattle.mqtt_packet.specs.declared.packet.Unsubscribe.{Unsubscribe}
use Rattle.users.specs.Table.{Rights}
use Rattle.users.specs.Rights.{may_work}
use Rattle.group_jobs.specs.Stamps.{Held}
use Rattle.group_jobs.specs.declared.fate.Fate.{Fate}
use Rattle.member_window.specs.Contents.{held_of}
use Rattle.conn_rules.specs.declared.subscribing.EntryAnswer.{EntryAnswer}
use Rattle.conn_rules.specs.declared.subscribing.EntryAnswer.TheVariants as entries
use Rattle.conn_rules.specs.Subscribing.{entry_answer}
use Rattle.session_desk.specs.Everything.{place_in, place_of}
use Rattle.session_desk.specs.declared.session.Session.{Session}
use Rattle.session_desk.specs.declared.session.Membership.{Membership}
use Rattle.session_desk.specs.declared.session.Membership.TheVariants.{NotMember, Member, Leaving}
use Rattle.conn_supply.specs.declared.reply.Reply.{Reply}
use Rattle.conn_supply.specs.declared.supply.BindRefusal.{BindRefusal}
use Rattle.conn_supply.specs.declared.supply.BindRefusal.TheVariants as refusal
use Rattle.conn_supply.specs.SupplyCalls.{SupplyCall}
use Rattle.conn_supply.specs.Subscribing.{IsLent, EntersAs, StaysAs, LeavesFrom, Joins, JoinsIf, AnswersEntry, AnswersEntries, IsUnbound, LacksMemory, AnswersFirst, AnswersSome, SubscribesAs, LeavesBy, LeavesByAll, UnsubscribesAs}
use Rattle.conn_engine.specs.declared.phase.ConnPhase.{ConnPhase}
use Rattle.conn_engine.specs.declared.phase.ConnPhase.TheVariants.{Unconnected, Waiting, Connected, Ended}
use Rattle.conn_engine.specs.Connecting.{RetiresEarlier, Withdraws}
use Rattle.conn_engine.specs.Ending.{down, GivesBack, Ends, RetiresAs, Retires, PartsAs, Sweeps}
use Rattle.conn_laws.specs.Calls.{offer_of, match_of, settlement_of, hand_out_of, offered, matched, settled, handed, MakesAll}
use Rattle.conn_laws.specs.Places.{places_brought, places_taken, KeepsPlaces}
use Rattle.conn_laws.specs.Transcripts.{IsAside}
use Rattle.conn_laws.proofs.KeptPlaces.{kept_by_none, kept_by_one, kept_by_both, kept_beside}

-- what holds of all in the one list, and of all in the other
pub all_of_both : {X : Type 0} (Q : X → Type 0) (these those : List X) → AllByRecursion Q these → AllByRecursion Q those → AllByRecursion Q (these ++ those)
all_of_both Q [] those all others = others
all_of_both Q (this ∷ these) those all others = (all.0, all_of_both Q these those all.1 others)

-- nothing is found in the one, and nothing in the other
pub none_in_both : {P X : Type 0} (find : SupplyCall P → Option X) (supply_calls others : List (SupplyCall P)) → filter_map find supply_calls ≡ [] → filter_map find others ≡ [] → filter_map find (supply_calls ++ others) ≡ []
none_in_both find supply_calls others no_one no_other = filter_map-append find supply_calls others ∙ (λ i. no_one i ++ no_other i)

module _ {S P : Type 0} (call : S → SupplyCall P → S → Type 0) where
  pub joins : (supply_calls others : List (SupplyCall P)) (old mid new : S) → MakesAll call old supply_calls mid → MakesAll call mid others new → MakesAll call old (supply_calls ++ others) new
  joins [] others old mid new these those = subst (λ s. MakesAll call s others new) these those
  joins (supply_call ∷ supply_calls) others old mid new these those = (these.0, these.1, joins supply_calls others these.0 mid new these.2 those)

  -- calls that hand these out, and settle those; before them there were these places, and after them there are those
  pub record Aside (given : List (P × Held)) (thrown : List (Held × Fate)) (before after : List P) (old new : S) : Type 0 where
    pub supply_calls : List (SupplyCall P)
    pub made : MakesAll call old supply_calls new
    pub aside : AllByRecursion IsAside supply_calls
    pub match : matched supply_calls ≡ []
    pub offers : offered supply_calls ≡ []
    pub settles : settled supply_calls ≡ thrown
    pub hands : handed supply_calls ≡ given
    pub places : KeepsPlaces before supply_calls after

  -- the places after them, said otherwise
  pub becomes : {given : List (P × Held)} {thrown : List (Held × Fate)} {before after after' : List P} {old new : S} → after' ≡ after → Aside given thrown before after old new → Aside given thrown before after' old new
  becomes {given} {thrown} {before} {after} {after'} {old} {new} same calls = subst (λ places. Aside given thrown before places old new) (sym same) calls

  -- there are other places, to which nothing happens
  abbrev pub beside : {given : List (P × Held)} {thrown : List (Held × Fate)} {before after : List P} {old new : S} (others : List P) → Aside given thrown before after old new → Aside given thrown (before ++ others) (after ++ others) old new
  beside {given} {thrown} {before} {after} others calls =
      record {
        supply_calls = calls.supply_calls;
        made = calls.made;
        aside = calls.aside;
        match = calls.match;
        offers = calls.offers;
        settles = calls.settles;
        hands = calls.hands;
        places = kept_beside others before after calls.supply_calls calls.places;
      }

  pub still : {before after : List P} (old new : S) → after ≡ before → new ≡ old → Aside [] [] before after old new
  still {before} old new same_places same =
      becomes same_places (record { supply_calls = []; made = same; aside = tt; match = refl; offers = refl; settles = refl; hands = refl; places = kept_by_none before })

  -- one call, by which this is handed out, if anything is
  abbrev pub hand : (hand_out : Option (P × Held)) (old new : S) (supply_call : SupplyCall P) → call old supply_call new → IsAside supply_call → match_of supply_call ≡ None → offer_of supply_call ≡ None → settlement_of supply_call ≡ None
      → hand_out_of supply_call ≡ hand_out → Aside (filter_map (λ (o : Option (P × Held)). o) (hand_out ∷ [])) [] (places_taken supply_call) (places_brought supply_call) old new
  hand hand_out old new supply_call called is_aside no_match no_offer no_settlement hands =
      record {
        supply_calls = supply_call ∷ [];
        made = (new, called, refl);
        aside = (is_aside, tt);
        match = ap (λ found. filter_map (λ (o : Option (List ℕ × List ℕ)). o) (found ∷ [])) no_match;
        offers = ap (λ found. filter_map (λ o. o) (found ∷ [])) no_offer;
        settles = ap (λ found. filter_map (λ o. o) (found ∷ [])) no_settlement;
        hands = ap (λ found. filter_map (λ (o : Option (P × Held)). o) (found ∷ [])) hands;
        places = kept_by_one supply_call;
      }

  pub one : (old new : S) (supply_call : SupplyCall P) → call old supply_call new → IsAside supply_call → match_of supply_call ≡ None → offer_of supply_call ≡ None → settlement_of supply_call ≡ None → hand_out_of supply_call ≡ None
      → Aside [] [] (places_taken supply_call) (places_brought supply_call) old new
  one old new supply_call called is_aside no_match no_offer no_settlement no_hand_out = hand None old new supply_call called is_aside no_match no_offer no_settlement no_hand_out

  abbrev pub after : {thrown discards : List (Held × Fate)} {before between behind : List P} (given more : List (P × Held)) (old mid new : S) → Aside given thrown before between old mid → Aside more discards between behind mid new → Aside (given ++ more) (thrown ++ discards) before behind old new
  after {thrown} {discards} {before} {between} {behind} given more old mid new these those =
      record {
        supply_calls = these.supply_calls ++ those.supply_calls;
        made = joins these.supply_calls those.supply_calls old mid new these.made those.made;
        aside = all_of_both IsAside these.supply_calls those.supply_calls these.aside those.aside;
        match = none_in_both match_of these.supply_calls those.supply_calls these.match those.match;
        offers = none_in_both offer_of these.supply_calls those.supply_calls these.offers those.offers;
        settles = filter_map-append settlement_of these.supply_calls those.supply_calls ∙ (λ i. these.settles i ++ those.settles i);
        hands = filter_map-append hand_out_of these.supply_calls those.supply_calls ∙ (λ i. these.hands i ++ those.hands i);
        places = kept_by_both before between behind these.supply_calls those.supply_calls these.places those.places;
      }

  pub behind : {before between after : List P} (old mid new : S) → Aside [] [] before between old mid → Aside [] [] between after mid new → Aside [] [] before after old new
  behind old mid new these those = after [] [] old mid new these those

  -- a session ends
  given_back : (entries : List (ℕ × Held)) (old new : S) (place place' : P) (left : List (ℕ × Held)) → GivesBack call old place entries place' left new → Aside [] [] (place ∷ []) (place' ∷ []) old new
  given_back [] old new place place' left gives = still old new (ap (λ p. p ∷ []) gives.0) gives.2
  given_back (entry ∷ entries) old new place place' left (inl gives) =
      behind old gives.1 new (one old gives.1 _ gives.2 tt refl refl refl refl) (given_back entries gives.1 new gives.0 place' left gives.3)
  given_back (entry ∷ entries) old new place place' left (inr kept) = one old new _ kept.0 tt refl refl refl refl

  ended : (old new : S) (session : Session Held P) (gone : Bool) → Ends call old session gone new → Aside [] [] (place_in session.membership) [] old new
  ended old new session gone (inl buried) = one old new _ buried.2 tt refl refl refl refl
  ended old new session gone (inr kept) = one old new _ kept.2 tt refl refl refl refl

  retired_as : (membership : Membership P) (old new : S) (session : Session Held P) (gone : Bool) → session.membership ≡ membership → RetiresAs call old session membership gone new
      → Aside [] [] (place_in membership) [] old new
  retired_as NotMember old new session gone is retires = subst (λ membership. Aside [] [] (place_in membership) [] old new) is (ended old new (down session) gone retires)
  retired_as (Member place) old new session gone is retires =
      behind old retires.mid new (given_back (held_of session.window) old retires.mid place retires.place' retires.left retires.given) (ended retires.mid new _ gone retires.ended)
  retired_as (Leaving place) old new session gone is retires =
      behind old retires.mid new (given_back (held_of session.window) old retires.mid place retires.place' retires.left retires.given) (ended retires.mid new _ gone retires.ended)

  retired : (old new : S) (session : Session Held P) (gone : Bool) → Retires call old session gone new → Aside [] [] (place_in session.membership) [] old new
  retired old new session gone retires = retired_as session.membership old new session gone refl retires

  pub parted_as : (answer : Option (Session Held P)) (old new : S) → PartsAs call old answer new → Aside [] [] (place_of answer) [] old new
  parted_as None old new parts = still old new refl parts
  parted_as (Some back) old new parts = retired old new back parts.0 parts.1

  pub swept : (most : ℕ) (old new : S) (now : ℕ) → Sweeps call old now most new → Aside [] [] [] [] old new
  swept zero old new now sweeps = still old new refl sweeps
  swept (suc most) old new now (inl none) = one old new _ none tt refl refl refl refl
  swept (suc most) old new now (inr sweeps) =
      behind old sweeps.1 new (one old sweeps.1 _ sweeps.3 tt refl refl refl refl) (
      ⊎_elim
      (λ (last : Retires call sweeps.1 sweeps.0 false new). retired sweeps.1 new sweeps.0 false last)
      (λ (more : Retires call sweeps.1 sweeps.0 true sweeps.2 × Sweeps call sweeps.2 now most new).
      behind sweeps.1 sweeps.2 new (retired sweeps.1 sweeps.2 sweeps.0 true more.0) (swept most sweeps.2 new now more.1))
      sweeps.4)

  pub retired_earlier : (session : Option (Session Held P)) (old new : S) → RetiresEarlier call old session new → Aside [] [] (place_of session) [] old new
  retired_earlier None old new retires = still old new refl retires
  retired_earlier (Some session) old new retires = retired old new session retires.0 retires.1

  pub withdrawn : (phase : ConnPhase P) (old new : S) (number : ℕ) → Withdraws call old number phase new → Aside [] [] [] [] old new
  withdrawn (Unconnected opened) old new number withdraws = one old new _ withdraws tt refl refl refl refl
  withdrawn (Waiting request ticks) old new number withdraws = still old new refl withdraws
  withdrawn (Connected connected) old new number withdraws = one old new _ withdraws tt refl refl refl refl
  withdrawn Ended old new number withdraws = one old new _ withdraws tt refl refl refl refl

  -- shares are joined and left
  module _ (slot_of : P → ℕ) where
    lent : (place : Option P) (old new : S) (slot code : ℕ) (membership : Membership P) → IsLent call slot_of old slot place code membership new → Aside [] [] [] (place_in membership) old new
    lent None old new slot code membership is = becomes (ap place_in is.2) (one old new _ is.0 tt refl refl refl refl)
    lent (Some place) old new slot code membership is = becomes (ap place_in is.2) (one old new _ is.0 tt refl refl refl refl)

    entered : (bound : Result ℕ BindRefusal) (old new : S) (share : Share) (code : ℕ) (membership : Membership P)
        → EntersAs call slot_of old share bound code membership new → Aside [] [] [] (place_in membership) old new
    entered (Ok slot) old new share code membership enters =
        behind old enters.0 new (one old enters.0 _ enters.2 tt refl refl refl refl) (lent enters.1 enters.0 new slot code membership enters.3)
    entered (Err refusal.NoSlot) old new share code membership enters = becomes (ap place_in enters.2) (one old new _ enters.0 tt refl refl refl refl)
    entered (Err refusal.Memory) old new share code membership enters = absurd enters
    entered (Err refusal.NotDeclared) old new share code membership enters = becomes (ap place_in enters.2) (one old new _ enters.0 tt refl refl refl refl)

    -- who has a place keeps it
    stays_at : (was : Membership P) (found : Option ℕ) (place : P) (code : ℕ) (membership : Membership P) → place_in was ≡ place ∷ [] → StaysAs call slot_of place found was code membership
        → place_in membership ≡ place ∷ []
    stays_at was found place code membership has (inl joins) = ap place_in joins.2
    stays_at was found place code membership has (inr stays) = ap place_in stays.2 ∙ has

    leaves_from : (found : Option ℕ) (place : P) (code : ℕ) (membership : Membership P) → LeavesFrom call slot_of place found code membership → place_in membership ≡ place ∷ []
    leaves_from found place code membership (inl leaves) = ap place_in leaves.2
    leaves_from found place code membership (inr stays) = ap place_in stays.2

    joined : (membership : Membership P) (old new : S) (share : Share) (code : ℕ) (membership' : Membership P)
        → Joins call slot_of old membership share code membership' new → Aside [] [] (place_in membership) (place_in membership') old new
    joined NotMember old new share code membership' does = entered does.0 old new share code membership' does.1
    joined (Member place) old new share code membership' does =
        becomes (stays_at (Member place) does.0 place code membership' refl does.2) (beside (place ∷ []) (one old new _ does.1 tt refl refl refl refl))
    joined (Leaving place) old new share code membership' does =
        becomes (stays_at (Leaving place) does.0 place code membership' refl does.2) (beside (place ∷ []) (one old new _ does.1 tt refl refl refl refl))

    joined_if : (allowed : Bool) (membership : Membership P) (old new : S) (share : Share) (code : ℕ) (membership' : Membership P)
        → JoinsIf call slot_of allowed old membership share code membership' new → Aside [] [] (place_in membership) (place_in membership') old new
    joined_if true membership old new share code membership' does = joined membership old new share code membership' does
    joined_if false membership old new share code membership' does = still old new (ap place_in does.1) does.2

    entry_answered : (rights : Rights) (answer : EntryAnswer) (old new : S) (membership : Membership P) (code : ℕ) (membership' : Membership P)
        → AnswersEntry call slot_of rights old membership answer code membership' new → Aside [] [] (place_in membership) (place_in membership') old new
    entry_answered rights (entries.Refuse code') old new membership code membership' answers = still old new (ap place_in answers.1) answers.2
    entry_answered rights (entries.Join share) old new membership code membership' answers = joined_if (may_work rights share.text) membership old new share code membership' answers

    pub entries_answered : (rights : Rights) (subscriptions : List Subscription) (old new : S) (membership : Membership P) (codes : List ℕ) (membership' : Membership P)
        → AnswersEntries call slot_of rights old membership subscriptions codes membership' new → Aside [] [] (place_in membership) (place_in membership') old new
    entries_answered rights [] old new membership codes membership' answers = still old new (ap place_in answers.1) answers.2
    entries_answered rights (entry ∷ others) old new membership codes membership' answers =
        behind old answers.3 new (entry_answered rights (entry_answer entry) old answers.3 membership answers.0 answers.2 answers.4)
        (entries_answered rights others answers.3 new answers.2 answers.1 membership' answers.5)

    unbound : (membership : Membership P) (old new : S) (share : Share) (membership' : Membership P)
        → IsUnbound call slot_of old membership share membership' new → Aside [] [] (place_in membership) (place_in membership') old new
    unbound NotMember old new share membership' is = becomes (ap place_in is.1) (one old new _ is.0 tt refl refl refl refl)
    unbound (Member place) old new share membership' is = absurd is
    unbound (Leaving place) old new share membership' is = absurd is

    lacking : (rights : Rights) (answer : EntryAnswer) (old new : S) (membership membership' : Membership P)
        → LacksMemory call slot_of rights old membership answer membership' new → Aside [] [] (place_in membership) (place_in membership') old new
    lacking rights (entries.Refuse code) old new membership membership' lacks = absurd lacks
    lacking rights (entries.Join share) old new membership membership' lacks = unbound membership old new share membership' lacks.1

    first_answered : (rights : Rights) (subscriptions : List Subscription) (old new : S) (membership membership' : Membership P)
        → AnswersFirst call slot_of rights old membership subscriptions membership' new → Aside [] [] (place_in membership) (place_in membership') old new
    first_answered rights [] old new membership membership' answers = absurd answers
    first_answered rights (entry ∷ others) old new membership membership' (inl lacks) =
        lacking rights (entry_answer entry) old new membership membership' lacks
    first_answered rights (entry ∷ others) old new membership membership' (inr answers) =
        behind old answers.2 new (entry_answered rights (entry_answer entry) old answers.2 membership answers.0 answers.1 answers.3)
        (first_answered rights others answers.2 new answers.1 membership' answers.4)

    pub some_answered : (rights : Rights) (old new : S) (subscriptions : List Subscription) (membership membership' : Membership P)
        → AnswersSome call slot_of rights old membership subscriptions membership' new → Aside [] [] (place_in membership) (place_in membership') old new
    some_answered rights old new subscriptions membership membership' (inl none) = still old new (ap place_in none.0) none.1
    some_answered rights old new subscriptions membership membership' (inr answers) = first_answered rights subscriptions old new membership membership' answers

    left : (membership : Membership P) (parsed : Result Share TopicError) (old new : S) (code : ℕ) (membership' : Membership P)
        → LeavesBy call slot_of old membership parsed code membership' new → Aside [] [] (place_in membership) (place_in membership') old new
    left NotMember parsed old new code membership' leaves = still old new (ap place_in leaves.1) leaves.2
    left (Member place) (Ok share) old new code membership' leaves =
        becomes (leaves_from leaves.0 place code membership' leaves.2) (beside (place ∷ []) (one old new _ leaves.1 tt refl refl refl refl))
    left (Member place) (Err error) old new code membership' leaves = still old new (ap place_in leaves.1) leaves.2
    left (Leaving place) parsed old new code membership' leaves = still old new (ap place_in leaves.1) leaves.2

    pub all_left : (texts : List (List ℕ)) (old new : S) (membership : Membership P) (codes : List ℕ) (membership' : Membership P)
        → LeavesByAll call slot_of old membership texts codes membership' new → Aside [] [] (place_in membership) (place_in membership') old new
    all_left [] old new membership codes membership' leaves = still old new (ap place_in leaves.1) leaves.2
    all_left (text ∷ texts) old new membership codes membership' leaves =
        behind old leaves.3 new (left membership (share_of text) old leaves.3 leaves.0 leaves.2 leaves.4) (all_left texts leaves.3 new leaves.2 leaves.1 membership' leaves.5)

    pub subscribed_as : (rights : Rights) (refused : Option ℕ) (old new : S) (membership : Membership P) (subscription : Option ℕ) (subscribe : Subscribe) (reply : Reply) (membership' : Membership P) (subscription' : Option ℕ)
        → SubscribesAs call slot_of refused rights old membership subscription subscribe reply membership' subscription' new → Aside [] [] (place_in membership) (place_in membership') old new
    subscribed_as rights (Some code) old new membership subscription subscribe reply membership' subscription' does = still old new (ap place_in does.1) does.3
    subscribed_as rights None old new membership subscription subscribe reply membership' subscription' does = entries_answered rights subscribe.subscriptions old new membership does.0 membership' does.2

    pub unsubscribed_as : (refused : Option ℕ) (old new : S) (membership : Membership P) (unsubscribe : Unsubscribe) (reply : Reply) (membership' : Membership P)
        → UnsubscribesAs call slot_of refused old membership unsubscribe reply membership' new → Aside [] [] (place_in membership) (place_in membership') old new
    unsubscribed_as (Some code) old new membership unsubscribe reply membership' does = still old new (ap place_in does.1) does.2
    unsubscribed_as None old new membership unsubscribe reply membership' does = all_left unsubscribe.filters old new membership does.0 membership' does.2
