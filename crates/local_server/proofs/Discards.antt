-- What is discarded had expired when it was handed out, or is too long for its client.
use Rattle.std.proofs.Common.{◌≡◌, ◌≢◌, ◌⊎◌, ℕ, nat_eq, Bool, true, false, not, if◌then◌else◌, List, [], ◌∷◌, ◌++◌, map, Option, Some, None, Result, Ok, Err, slice_get, refl, sym, ap, subst, ◌∙◌, inl, inr, ⊎_elim, append_assoc, append-nil, ne_eqb}
use Rattle.std.specs.Prelude.{⊤}
use Rattle.std.specs.List.{AllByRecursion, cons_option}
use Rattle.std.proofs.lemmas.Bool.{cases_eq, eq-eqb}
use Rattle.std.proofs.lemmas.List.{map-append}
use Rattle.std.proofs.lemmas.List.Elements.{filter-append, filter_map-append}
use Rattle.std.proofs.lemmas.Option.{slice_get_within, same_Some}
use Rattle.mqtt_packet.specs.declared.packet.Packet.{Packet}
use Rattle.mqtt_packet.specs.declared.packet.Packet.TheVariants as packets
use Rattle.mqtt_packet.specs.declared.packet.Publish.{Publish}
use Rattle.dispatch_core.specs.declared.event.Event.{Event}
use Rattle.dispatch_core.specs.declared.event.Event.TheVariants.{Accept, Back}
use Rattle.dispatch_core.specs.Step.{next_job}
use Rattle.dispatch_core.proofs.Spots.{slice_get-set_same, slice_get-set_other}
use Rattle.group_jobs.specs.declared.fate.Fate.{Fate}
use Rattle.group_jobs.specs.declared.fate.Fate.TheVariants as fate
use Rattle.group_jobs.specs.declared.message.Message.{Message}
use Rattle.group_jobs.specs.declared.stamp.Stamp.{Stamp}
use Rattle.group_jobs.specs.Stamps.{Held, job_of}
use Rattle.local_group.specs.declared.waiting.Waiting.{Waiting as WaitingMessage}
use Rattle.local_group.specs.Groups.{Group, waits, Adds, Settles, GivesBack}
use Rattle.member_window.specs.Contents.{Contents, after_resend}
use Rattle.session_desk.specs.declared.session.Membership.{Membership}
use Rattle.session_desk.specs.declared.session.Membership.TheVariants.{NotMember, Member, Leaving}
use Rattle.conn_rules.specs.Publishing.{message_of}
use Rattle.conn_rules.specs.declared.hand_outs.HandOutTerms.{HandOutTerms}
use Rattle.conn_supply.specs.declared.reply.Then.{Then}
use Rattle.conn_supply.specs.declared.supply.NoMemory.{NoMemory}
use Rattle.conn_supply.specs.declared.supply.OfferRefusal.{OfferRefusal}
use Rattle.conn_supply.specs.HandOuts.{SendsAgain, AsksFor, DiscardsOne, Discards, Finds, LooksFor, SendsFresh, HandsFresh}
use Rattle.conn_supply.specs.SupplyCalls.{SupplyCall}
use Rattle.conn_supply.specs.SupplyCalls.SupplyCall.{Attach, Withdraw, Kicked, Park, ParkAsIs, Keep, Bury, Sweep, LendPlace, TakePlace, Bind, Find, Match, Offer, MayTake, Take, TakeBack, Settle, GiveBack}
use Rattle.conn_engine.specs.declared.input.Input.{Input}
use Rattle.conn_engine.specs.declared.input.Input.TheVariants as inputs
use Rattle.conn_engine.specs.declared.phase.ConnPhase.{ConnPhase}
use Rattle.conn_engine.specs.declared.phase.ConnPhase.TheVariants.{Unconnected, Waiting, Connected, Ended}
use Rattle.conn_engine.specs.Step.{hand_out_terms, Hands}
use Rattle.conn_laws.specs.Calls.{hand_out_of, offer_of, settlement_of, handed, offered, settled, Outcome, if_sent, sent_of, IsSentIfFit, AreSentIfFit, Content, content_of, contents_of, fresh_content, fresh_contents, Confirms, OffersToEach, OffersNone, SettlesOne, SettlesNone, MakesAll}
use Rattle.conn_laws.proofs.Aside.{all_of_both}
use Rattle.conn_laws.proofs.Replying.{replied_and_sent}
use Rattle.conn_laws.proofs.Stepping.{reacted as calls_of_reply}
use Rattle.local_broker.specs.Places.{GroupPlace}
use Rattle.local_broker.specs.Groups.{InGroup, IsOffered, HandsOut, HandsOutAgain, IsOutAt, IsSettled, IsGivenBack, LetsGo}
use Rattle.local_broker.specs.Broker.{Broker}
use Rattle.local_broker.specs.Calls.{Calls, OffersFrom}
use Rattle.local_broker.proofs.Holding.{comes_out, comes_out_again}
use Rattle.local_server.specs.Happening.{slot_of}
use Rattle.local_server.specs.TakenSteps.{TakenStep, IsLawfulStep}
use Rattle.local_server.specs.Discards.{HandsOne, HandsEach, IsNeither, to_slot, IsMessageOf, Tells, DiscardsExpiredOrTooLong}

-- ---- one group of a broker changes

record OneGroup (old new : Broker) (at : ℕ) (Does : Group → Group → Type 0) : Type 0 where
  before : Group
  after : Group
  there : slice_get old.groups at ≡ Some before
  is : slice_get new.groups at ≡ Some after
  does : Does before after
  others : (slot : ℕ) → at ≢ slot → slice_get new.groups slot ≡ slice_get old.groups slot

one_group : (old new : Broker) (at : ℕ) (Does : Group → Group → Type 0) → InGroup old.groups at Does new.groups → OneGroup old new at Does
one_group old new at Does does =
    record {
      before = does.before;
      after = does.after;
      there = does.there;
      is =
          ap (λ (l : List Group). slice_get l at) does.becomes
          ∙ slice_get-set_same old.groups at does.after (slice_get_within old.groups at does.before does.there);
      does = does.does;
      others = λ slot differs.
          ap (λ (l : List Group). slice_get l slot) does.becomes ∙ slice_get-set_other old.groups at slot does.after (λ e. differs (sym e));
    }

-- it changes twice
abbrev Both : (Group → Group → Type 0) → (Group → Group → Type 0) → Group → Group → Type 0
Both First Then before after = (between : Group) × First before between × Then between after

both_groups : (old mid new : Broker) (at : ℕ) (First Then : Group → Group → Type 0) → OneGroup old mid at First → OneGroup mid new at Then → OneGroup old new at (Both First Then)
both_groups old mid new at First Then first last =
    let same : last.before ≡ first.after = same_Some last.before first.after (sym last.there ∙ first.is) in
    record {
      before = first.before;
      after = last.after;
      there = first.there;
      is = last.is;
      does = (first.after, first.does, subst (λ (g : Group). Then g last.after) same last.does);
      others = λ slot differs. last.others slot differs ∙ first.others slot differs;
    }

like_group : (old new : Broker) (at : ℕ) (Does Also : Group → Group → Type 0) → ((before after : Group) → Does before after → Also before after) → OneGroup old new at Does → OneGroup old new at Also
like_group old new at Does Also like one =
    record { before = one.before; after = one.after; there = one.there; is = one.is; does = like one.before one.after one.does; others = one.others }

-- ---- what is handed out by calls

record HandsAt (old : Broker) (slot : ℕ) (outcomes : List (Outcome GroupPlace)) (group : Group) : Type 0 where
  ready : Group
  was : slice_get old.groups slot ≡ Some ready
  hands : HandsEach ready outcomes group

record HandsInEach (old : Broker) (outcomes : List (Outcome GroupPlace)) (new : Broker) : Type 0 where
  at : (slot : ℕ) (group : Group) → slice_get new.groups slot ≡ Some group → HandsAt old slot (to_slot slot outcomes) group
  nowhere : (slot : ℕ) → slice_get new.groups slot ≡ None → (slice_get old.groups slot ≡ None) × (to_slot slot outcomes ≡ [])

hands_none : (old new : Broker) → new.groups ≡ old.groups → HandsInEach old [] new
hands_none old new same =
    record {
      at = λ slot group there.
          record { ready = group; was = ap (λ (l : List Group). slice_get l slot) (sym same) ∙ there; hands = refl };
      nowhere = λ slot none. (ap (λ (l : List Group). slice_get l slot) (sym same) ∙ none, refl);
    }

each_then : (these those : List (Outcome GroupPlace)) (old mid new : Group) → HandsEach old these mid → HandsEach mid those new → HandsEach old (these ++ those) new
each_then [] those old mid new first rest = subst (λ (g : Group). HandsEach g those new) first rest
each_then (outcome ∷ these) those old mid new first rest = (first.0, first.1, first.2, first.3, each_then these those first.1 mid new first.4 rest)

hands_then : (these those : List (Outcome GroupPlace)) (old mid new : Broker) → HandsInEach old these mid → HandsInEach mid those new → HandsInEach old (these ++ those) new
hands_then these those old mid new first rest =
    record {
      at = λ slot group there.
          let later = rest.at slot group there in
          let sooner = first.at slot later.ready later.was in
          record {
            ready = sooner.ready;
            was = sooner.was;
            hands =
                subst (λ (l : List (Outcome GroupPlace)). HandsEach sooner.ready l group)
                (sym (filter-append (λ (o : Outcome GroupPlace). nat_eq o.hand_out.0.slot slot) these those))
                (each_then (to_slot slot these) (to_slot slot those) sooner.ready later.ready group sooner.hands later.hands);
          };
      nowhere = λ slot none.
          let later = rest.nowhere slot none in
          let sooner = first.nowhere slot later.0 in (
            sooner.0,
            filter-append (λ (o : Outcome GroupPlace). nat_eq o.hand_out.0.slot slot) these those ∙ (λ i. sooner.1 i ++ later.1 i),
          );
    }

some_none : (group : Group) → ◌≡◌ {A = Option Group} (Some group) None → ⊥
some_none group is = cc

hands_in : (old new : Broker) (at : ℕ) (given : List (Outcome GroupPlace)) → to_slot at given ≡ given → ((slot : ℕ) → at ≢ slot → to_slot slot given ≡ [])
    → OneGroup old new at (λ before after. HandsEach before given after) → HandsInEach old given new
hands_in old new at given own other one =
    record {
      at = λ slot group there.
          ⊎_elim
          (λ (is : at ≡ slot).
          let same : one.after ≡ group = same_Some one.after group (sym one.is ∙ ap (slice_get new.groups) is ∙ there) in
          record {
            ready = one.before;
            was = ap (slice_get old.groups) (sym is) ∙ one.there;
            hands =
                subst (λ (l : List (Outcome GroupPlace)). HandsEach one.before l group) (sym (subst (λ (n : ℕ). to_slot n given ≡ given) is own))
                (subst (HandsEach one.before given) same one.does);
          })
          (λ (differs : at ≢ slot).
          record {
            ready = group;
            was = sym (one.others slot differs) ∙ there;
            hands = subst (λ (l : List (Outcome GroupPlace)). HandsEach group l group) (sym (other slot differs)) refl;
          })
          (cases_eq at slot);
      nowhere = λ slot none.
          ⊎_elim
          (λ (is : at ≡ slot). absurd (some_none one.after (sym one.is ∙ ap (slice_get new.groups) is ∙ none)))
          (λ (differs : at ≢ slot). (sym (one.others slot differs) ∙ none, other slot differs))
          (cases_eq at slot);
    }

abbrev outcome_of : GroupPlace → Held → Bool → Outcome GroupPlace
outcome_of place envelope is_sent = record { hand_out = (place, envelope); sent = is_sent }

hands_one : (old new : Broker) (place : GroupPlace) (envelope : Held) (is_sent : Bool) → OneGroup old new place.slot (λ before after. HandsEach before (outcome_of place envelope is_sent ∷ []) after)
    → HandsInEach old (outcome_of place envelope is_sent ∷ []) new
hands_one old new place envelope is_sent one =
    hands_in old new place.slot (outcome_of place envelope is_sent ∷ [])
    (ap (λ (b : Bool). if b then outcome_of place envelope is_sent ∷ [] else []) (eq-eqb place.slot place.slot refl))
    (λ slot differs. ap (λ (b : Bool). if b then outcome_of place envelope is_sent ∷ [] else []) (ne_eqb place.slot slot differs)) one

abbrev Stays : Group → Group → Type 0
Stays before after = after ≡ before

hands_still : (old new : Broker) (at : ℕ) → OneGroup old new at Stays → HandsInEach old [] new
hands_still old new at one = hands_in old new at [] refl (λ slot differs. refl) one

-- a place is handed a message
abbrev IsHanded : GroupPlace → Held → Group → Group → Type 0
IsHanded place envelope before after = HandsOne before (place, envelope) after

none_back : (old new : Broker) (place place' : GroupPlace) → Calls old (TakeBack place place' (Ok None)) new → OneGroup old new place.slot Stays
none_back old new place place' does =
    like_group old new place.slot _ Stays (λ before after is. is.1) (one_group old new place.slot (λ before after. HandsOutAgain before place.number (Ok None) after) does.0)

none_taken : (old new : Broker) (place place' : GroupPlace) → Calls old (Take place place' (Ok None)) new → OneGroup old new place.slot Stays
none_taken old new place place' does =
    like_group old new place.slot _ Stays (λ before after is. is.1) (one_group old new place.slot (λ before after. HandsOut before place.number (Ok None) after) does.0)

one_back : (old new : Broker) (place place' : GroupPlace) (envelope : Held) → Calls old (TakeBack place place' (Ok (Some envelope))) new → OneGroup old new place.slot (IsHanded place envelope)
one_back old new place place' envelope does =
    like_group old new place.slot _ (IsHanded place envelope) (λ before after is. inl is)
    (one_group old new place.slot (λ before after. HandsOutAgain before place.number (Ok (Some envelope)) after) does.0)

one_taken : (old new : Broker) (place place' : GroupPlace) (envelope : Held) → Calls old (Take place place' (Ok (Some envelope))) new → OneGroup old new place.slot (IsHanded place envelope)
one_taken old new place place' envelope does =
    like_group old new place.slot _ (IsHanded place envelope) (λ before after is. inr is)
    (one_group old new place.slot (λ before after. HandsOut before place.number (Ok (Some envelope)) after) does.0)

asked : (old new : Broker) (place place' : GroupPlace) (envelope : Held) → AsksFor Calls old place (Some envelope) place' new
    → OneGroup old new place.slot (IsHanded place envelope) × (place' ≡ place)
asked old new place place' envelope (inl back) =
    let its : envelope ≡ back.0 = same_Some envelope back.0 back.1 in
    (subst (λ (e : Held). OneGroup old new place.slot (IsHanded place e)) (sym its) (one_back old new place place' back.0 back.2), back.2.1)
asked old new place place' envelope (inr queued) =
    let stays : queued.0 ≡ place = queued.2.1 in
    let takes : Calls queued.1 (Take place place' (Ok (Some envelope))) new = subst (λ (p : GroupPlace). Calls queued.1 (Take p place' (Ok (Some envelope))) new) stays queued.3 in (
      like_group old new place.slot (Both Stays (IsHanded place envelope)) (IsHanded place envelope)
          (λ before after is. subst (λ (g : Group). IsHanded place envelope g after) is.1 is.2)
          (both_groups old queued.1 new place.slot Stays (IsHanded place envelope) (none_back old queued.1 place queued.0 queued.2) (one_taken queued.1 new place place' envelope takes)),
      takes.1,
    )

asked_for_none : (old new : Broker) (place place' : GroupPlace) → AsksFor Calls old place None place' new → HandsInEach old [] new
asked_for_none old new place place' (inl back) = absurd (let none = back.1 in cc)
asked_for_none old new place place' (inr queued) =
    hands_then [] [] old queued.1 new (hands_still old queued.1 place.slot (none_back old queued.1 place queued.0 queued.2))
    (hands_still queued.1 new queued.0.slot (none_taken queued.1 new queued.0 place' queued.3))

is_out : (before after : Group) (place : GroupPlace) (envelope : Held) → IsHanded place envelope before after → IsOutAt after place.number envelope
is_out before after place envelope (inl back) = comes_out_again before after place.number envelope back
is_out before after place envelope (inr taken) = comes_out before after place.number envelope taken

-- and discards it
discarded_so : (before handed after : Group) (place : GroupPlace) (envelope : Held) → IsHanded place envelope before handed → IsSettled handed place.number envelope fate.Discarded after
    → HandsEach before (outcome_of place envelope false ∷ []) after
discarded_so before handed after place envelope is (inl settles) = (handed, after, is, settles.1, refl)
discarded_so before handed after place envelope is (inr lets_go) = absurd (lets_go.stranger (is_out before handed place envelope is))

-- ---- what a step hands out

record Walk (terms : HandOutTerms) (contents : List Content) (old new : Broker) : Type 0 where
  outcomes : List (Outcome GroupPlace)
  hands : HandsInEach old outcomes new
  fit : AllByRecursion (IsSentIfFit terms) outcomes
  are : contents_of (sent_of outcomes) ≡ contents

module _ (terms : HandOutTerms) where
  nothing : (old new : Broker) → HandsInEach old [] new → Walk terms [] old new
  nothing old new hands = record { outcomes = []; hands = hands; fit = tt; are = refl }

  same_all : (old new : Broker) → new ≡ old → Walk terms [] old new
  same_all old new same = nothing old new (hands_none old new (ap (λ (b : Broker). b.groups) same))

  walk_then : (these those : List Content) (old mid new : Broker) → Walk terms these old mid → Walk terms those mid new → Walk terms (these ++ those) old new
  walk_then these those old mid new first rest =
      record {
        outcomes = first.outcomes ++ rest.outcomes;
        hands = hands_then first.outcomes rest.outcomes old mid new first.hands rest.hands;
        fit = all_of_both (IsSentIfFit terms) first.outcomes rest.outcomes first.fit rest.fit;
        are =
            ap contents_of (filter_map-append (λ (o : Outcome GroupPlace). if_sent o.sent o.hand_out) first.outcomes rest.outcomes)
            ∙ map-append (λ (h : GroupPlace × Held). content_of h.1.message) (sent_of first.outcomes) (sent_of rest.outcomes)
            ∙ (λ i. first.are i ++ rest.are i);
      }

  one_discarded : (old new : Broker) (place place' : GroupPlace) (envelope : Held) → DiscardsOne Calls terms old place envelope place' new → Walk terms [] old new
  one_discarded old new place place' envelope discards =
      let handed = asked old discards.mid place discards.taken envelope discards.asked in
      let settles : Calls discards.mid (Settle place place' envelope fate.Discarded) new =
      subst (λ (p : GroupPlace). Calls discards.mid (Settle p place' envelope fate.Discarded) new) handed.1 discards.settled in
      let IsDiscarded : Group → Group → Type 0 = λ before after. IsSettled before place.number envelope fate.Discarded after in
      record {
        outcomes = outcome_of place envelope false ∷ [];
        hands =
            hands_one old new place envelope false
            (like_group old new place.slot (Both (IsHanded place envelope) IsDiscarded) (λ before after. HandsEach before (outcome_of place envelope false ∷ []) after)
            (λ before after is. discarded_so before is.0 after place envelope is.1 is.2)
            (both_groups old discards.mid new place.slot (IsHanded place envelope) IsDiscarded handed.0 (one_group discards.mid new place.slot IsDiscarded settles.0)));
        fit = (ap not (sym discards.reason), tt);
        are = refl;
      }

  all_discarded : (envelopes : List Held) (old new : Broker) (place place' : GroupPlace) → Discards Calls terms old place envelopes place' new → Walk terms [] old new
  all_discarded [] old new place place' discards = same_all old new discards.1
  all_discarded (envelope ∷ envelopes) old new place place' discards =
      walk_then [] [] old discards.1 new (one_discarded old discards.1 place discards.0 envelope discards.2) (all_discarded envelopes discards.1 new discards.0 place' discards.3)

  one_found : (old new : Broker) (place place' : GroupPlace) (envelope : Held) → Finds Calls terms old place (Some envelope) place' new → Walk terms (content_of envelope.message ∷ []) old new
  one_found old new place place' envelope finds =
      record {
        outcomes = outcome_of place envelope true ∷ [];
        hands =
            hands_one old new place envelope true
            (like_group old new place.slot (IsHanded place envelope) (λ before after. HandsEach before (outcome_of place envelope true ∷ []) after)
            (λ before after is. (after, after, is, refl, refl)) (asked old new place place' envelope finds.1).0);
        fit = (ap not (sym finds.2), tt);
        are = refl;
      }

  looked_for_one : (old new : Broker) (place place' : GroupPlace) (envelope : Held) → LooksFor Calls terms old place (Some envelope) place' new → Walk terms (content_of envelope.message ∷ []) old new
  looked_for_one old new place place' envelope looks =
      walk_then [] (content_of envelope.message ∷ []) old looks.mid new (all_discarded looks.discarded old looks.mid place looks.between looks.passed)
      (elim looks.ended as (λ (ended : _). Walk terms (content_of envelope.message ∷ []) looks.mid new) [
        | inl finds ↦ one_found looks.mid new looks.between place' envelope finds.1
        | inr none ↦ absurd (let never = none.1 in cc)
      ])

  none_found : (old new : Broker) (place place' : GroupPlace) → Finds Calls terms old place None place' new → Walk terms [] old new
  none_found old new place place' (inl asks) = nothing old new (asked_for_none old new place place' asks.1)
  none_found old new place place' (inr stops) = same_all old new stops.1

  looked_for_none : (old new : Broker) (place place' : GroupPlace) → LooksFor Calls terms old place None place' new → Walk terms [] old new
  looked_for_none old new place place' looks =
      walk_then [] [] old looks.mid new (all_discarded looks.discarded old looks.mid place looks.between looks.passed)
      (elim looks.ended as (λ (ended : _). Walk terms [] looks.mid new) [
        | inl finds ↦ none_found looks.mid new looks.between place' finds.1
        | inr most ↦ same_all looks.mid new most.3
      ])

  fresh : (sent : List Packet) (old new : Broker) (place place' : GroupPlace) (window window' : Contents Held) → SendsFresh Calls terms old place window sent place' window' new
      → Walk terms (fresh_contents sent) old new
  fresh [] old new place place' window window' (same, inl full) = same_all old new full.2
  fresh [] old new place place' window window' (same, inr none) = looked_for_none old new place place' none.1
  fresh (packet ∷ packets) old new place place' window window' sends =
      let one = sends.3 in
      subst (λ (l : List Content). Walk terms l old new) (sym (ap (λ (p : Packet). fresh_contents (p ∷ packets)) one.sent))
      (walk_then (content_of one.envelope.message ∷ []) (fresh_contents packets) old sends.2 new (looked_for_one old sends.2 place sends.0 one.envelope one.found)
      (fresh packets sends.2 new sends.0 place' sends.1 window' sends.4))

  silent : (sent : List Packet) (old new : Broker) → sent ≡ [] → HandsInEach old [] new → Walk terms (fresh_contents sent) old new
  silent sent old new none hands = subst (λ (l : List Packet). Walk terms (fresh_contents l) old new) (sym none) (nothing old new hands)

  hands_fresh : (membership membership' : Membership GroupPlace) (old new : Broker) (window window' : Contents Held) (sent : List Packet)
      → HandsFresh Calls terms old membership window sent membership' window' new → Walk terms (fresh_contents sent) old new
  hands_fresh NotMember membership' old new window window' sent hands = silent sent old new hands.0 (hands_none old new (ap (λ (b : Broker). b.groups) hands.3))
  hands_fresh (Member place) membership' old new window window' sent hands = fresh sent old new place hands.0 window window' hands.2
  hands_fresh (Leaving place) membership' old new window window' sent hands =
      silent sent old new hands.0
      (⊎_elim (λ empty. hands_none old new empty.2.1.groups) (λ still. hands_none old new (ap (λ (b : Broker). b.groups) still.2)) hands.2)

none_again : (now : ℕ) (sent : List Packet) (old new : Contents Held) → SendsAgain now old sent new → fresh_contents sent ≡ []
none_again now [] old new again = refl
none_again now (packet ∷ others) old new again =
    ap (λ (p : Packet). fresh_contents (p ∷ others)) again.2 ∙ none_again now others (after_resend old (Some again.0)) new again.3

-- behind the reply of a step
record Behind (now : ℕ) (sent : List Packet) (old : Broker) (phase : ConnPhase GroupPlace) (new : Broker) : Type 0 where
  outcomes : List (Outcome GroupPlace)
  hands : HandsInEach old outcomes new
  fit : AreSentIfFit phase now outcomes
  are : fresh_contents sent ≡ contents_of (sent_of outcomes)

none_behind : (now : ℕ) (sent : List Packet) (old : Broker) (between phase : ConnPhase GroupPlace) (new : Broker) → AreSentIfFit between now [] → (sent ≡ []) × (phase ≡ between) × (new ≡ old)
    → Behind now sent old phase new
none_behind now sent old between phase new fit is =
    record {
      outcomes = [];
      hands = hands_none old new (ap (λ (b : Broker). b.groups) is.2);
      fit = subst (λ (s : ConnPhase GroupPlace). AreSentIfFit s now []) (sym is.1) fit;
      are = ap fresh_contents is.0;
    }

handed_behind : (between : ConnPhase GroupPlace) (now : ℕ) (old new : Broker) (sent : List Packet) (phase : ConnPhase GroupPlace) → Hands Calls slot_of old between now sent phase new
    → Behind now sent old phase new
handed_behind (Unconnected opened) now old new sent phase hands = none_behind now sent old (Unconnected opened) phase new refl hands
handed_behind (Waiting request ticks) now old new sent phase hands = none_behind now sent old (Waiting request ticks) phase new refl hands
handed_behind (Connected connected) now old new sent phase hands =
    let out = hands.2 in
    let walk = hands_fresh (hand_out_terms connected now) connected.session.membership hands.0 old new out.between hands.1 out.fresh out.sent_fresh in
    record {
      outcomes = walk.outcomes;
      hands = walk.hands;
      fit = subst (λ (s : ConnPhase GroupPlace). AreSentIfFit s now walk.outcomes) (sym hands.3) walk.fit;
      are =
          ap fresh_contents out.both ∙ filter_map-append fresh_content out.again out.fresh
          ∙ (λ i. none_again now out.again connected.session.window out.between out.sent_again i ++ fresh_contents out.fresh) ∙ sym walk.are;
    }
handed_behind Ended now old new sent phase hands = none_behind now sent old Ended phase new refl hands

-- ---- what happens in the groups before it

-- what is settled is not discarded
abbrev NoDiscard : Held × Fate → Type 0
NoDiscard settlement = settlement.1 ≢ fate.Discarded

abbrev IfAny : {X : Type 0} → (X → Type 0) → Option X → Type 0
IfAny Q None = ⊤
IfAny Q (Some x) = Q x

-- where these messages came
module _ (Came : Message → Type 0) where
  record Quietly (old new : Group) : Type 0 where
    earlier : List Event
    events : new.events ≡ old.events ++ earlier
    neither : AllByRecursion IsNeither earlier
    accepted : List WaitingMessage
    queue : new.queue ≡ old.queue ++ accepted
    came : AllByRecursion (λ waiting. Came waiting.message) accepted
    given_back : List WaitingMessage
    returned : new.returned ≡ old.returned ++ given_back

  record QuietAt (old : Broker) (slot : ℕ) (group : Group) : Type 0 where
    before : Group
    was : slice_get old.groups slot ≡ Some before
    quietly : Quietly before group

  abbrev Quiet : Broker → Broker → Type 0
  Quiet old new = (slot : ℕ) (group : Group) → slice_get new.groups slot ≡ Some group → QuietAt old slot group

  still_quiet : (old new : Group) → new ≡ old → Quietly old new
  still_quiet old new same =
      record {
        earlier = [];
        events = ap (λ (g : Group). g.events) same ∙ sym (append-nil old.events);
        neither = tt;
        accepted = [];
        queue = ap (λ (g : Group). g.queue) same ∙ sym (append-nil old.queue);
        came = tt;
        given_back = [];
        returned = ap (λ (g : Group). g.returned) same ∙ sym (append-nil old.returned);
      }

  one_event : (old new : Group) (event : Event) → IsNeither event → Adds old event new → new.queue ≡ old.queue → new.returned ≡ old.returned → Quietly old new
  one_event old new event is adds queue_is returned_is =
      record {
        earlier = event ∷ [];
        events = adds.events;
        neither = (is, tt);
        accepted = [];
        queue = queue_is ∙ sym (append-nil old.queue);
        came = tt;
        given_back = [];
        returned = returned_is ∙ sym (append-nil old.returned);
      }

  quiet_groups : (old new : Broker) → new.groups ≡ old.groups → Quiet old new
  quiet_groups old new same slot group there =
      record { before = group; was = ap (λ (l : List Group). slice_get l slot) (sym same) ∙ there; quietly = still_quiet group group refl }

  quiet_then : (old mid new : Broker) → Quiet old mid → Quiet mid new → Quiet old new
  quiet_then old mid new first rest slot group there =
      let later = rest slot group there in
      let sooner = first slot later.before later.was in
      record {
        before = sooner.before;
        was = sooner.was;
        quietly =
            record {
              earlier = sooner.quietly.earlier ++ later.quietly.earlier;
              events =
                  later.quietly.events ∙ ap (λ (l : List Event). l ++ later.quietly.earlier) sooner.quietly.events
                  ∙ append_assoc sooner.before.events sooner.quietly.earlier later.quietly.earlier;
              neither = all_of_both IsNeither sooner.quietly.earlier later.quietly.earlier sooner.quietly.neither later.quietly.neither;
              accepted = sooner.quietly.accepted ++ later.quietly.accepted;
              queue =
                  later.quietly.queue ∙ ap (λ (l : List WaitingMessage). l ++ later.quietly.accepted) sooner.quietly.queue
                  ∙ append_assoc sooner.before.queue sooner.quietly.accepted later.quietly.accepted;
              came = all_of_both (λ (w : WaitingMessage). Came w.message) sooner.quietly.accepted later.quietly.accepted sooner.quietly.came later.quietly.came;
              given_back = sooner.quietly.given_back ++ later.quietly.given_back;
              returned =
                  later.quietly.returned ∙ ap (λ (l : List WaitingMessage). l ++ later.quietly.given_back) sooner.quietly.returned
                  ∙ append_assoc sooner.before.returned sooner.quietly.given_back later.quietly.given_back;
            };
      }

  quiet_in : (old new : Broker) (at : ℕ) (Does : Group → Group → Type 0) → ((before after : Group) → Does before after → Quietly before after) → InGroup old.groups at Does new.groups → Quiet old new
  quiet_in old new at Does quiet does slot group there =
      let one = one_group old new at Does does in
      ⊎_elim
      (λ (is : at ≡ slot).
      let same : one.after ≡ group = same_Some one.after group (sym one.is ∙ ap (slice_get new.groups) is ∙ there) in
      record {
        before = one.before;
        was = ap (slice_get old.groups) (sym is) ∙ one.there;
        quietly = subst (Quietly one.before) same (quiet one.before one.after one.does);
      })
      (λ (differs : at ≢ slot). record { before = group; was = sym (one.others slot differs) ∙ there; quietly = still_quiet group group refl })
      (cases_eq at slot)

  is_offered : (answer : Result Stamp OfferRefusal) (old new : Group) (port : ℕ) (message : Message) → Came message → IsOffered old port message answer new → Quietly old new
  is_offered (Ok stamp) old new port message has_come does =
      record {
        earlier = Accept port ∷ [];
        events = does.event.events;
        neither = (tt, tt);
        accepted = waits (next_job old.state port) message ∷ [];
        queue = does.queue;
        came = (has_come, tt);
        given_back = [];
        returned = does.returned ∙ sym (append-nil old.returned);
      }
  is_offered (Err refusal) old new port message has_come does = still_quiet old new does.same

  is_offered_to : (old new : Broker) (slot connection : ℕ) (message : Message) (answer : Result Stamp OfferRefusal) → Came message
      → OffersFrom old.groups slot connection message answer new.groups → Quiet old new
  is_offered_to old new slot connection message answer has_come (inl no_port) = quiet_groups old new no_port.2
  is_offered_to old new slot connection message answer has_come (inr (inl no_group)) = quiet_groups old new no_group.3
  is_offered_to old new slot connection message answer has_come (inr (inr in_group)) =
      quiet_in old new slot _ (λ before after is. is_offered answer before after connection message has_come is) in_group.2

  is_handed : (answer : Result (Option Held) NoMemory) (old new : Group) (at place place' : GroupPlace) → hand_out_of (Take at place' answer) ≡ None → HandsOut old place.number answer new → Quietly old new
  is_handed (Ok (Some envelope)) old new at place place' none does = absurd (cc)
  is_handed (Ok None) old new at place place' none does = still_quiet old new does.1
  is_handed (Err error) old new at place place' none does = still_quiet old new does.1

  is_handed_again : (answer : Result (Option Held) NoMemory) (old new : Group) (at place place' : GroupPlace) → hand_out_of (TakeBack at place' answer) ≡ None → HandsOutAgain old place.number answer new
      → Quietly old new
  is_handed_again (Ok (Some envelope)) old new at place place' none does = absurd (cc)
  is_handed_again (Ok None) old new at place place' none does = still_quiet old new does.1
  is_handed_again (Err error) old new at place place' none does = still_quiet old new does.1

  settled_as : (how : Fate) (old new : Group) (envelope : Held) → how ≢ fate.Discarded → Settles old envelope how new → Quietly old new
  settled_as fate.Acknowledged old new envelope no_discard settles = one_event old new _ tt settles.event settles.queue settles.returned
  settled_as fate.Refused old new envelope no_discard settles = one_event old new _ tt settles.event settles.queue settles.returned
  settled_as fate.Discarded old new envelope no_discard settles = absurd (no_discard refl)

  is_settled : (how : Fate) (old new : Group) (place : ℕ) (envelope : Held) → how ≢ fate.Discarded → IsSettled old place envelope how new → Quietly old new
  is_settled how old new place envelope no_discard does =
      ⊎_elim
      (λ (is : IsOutAt old place envelope × Settles old envelope how new). settled_as how old new envelope no_discard is.1)
      (λ (is : LetsGo old place envelope new). still_quiet old new is.same)
      does

  is_given_back : (old new : Group) (place : ℕ) (envelope : Held) → IsGivenBack old place envelope new → Quietly old new
  is_given_back old new place envelope does =
      ⊎_elim
      (λ (is : IsOutAt old place envelope × GivesBack old envelope new).
      record {
        earlier = Back envelope.place (job_of envelope.stamp) ∷ [];
        events = is.1.event.events;
        neither = (tt, tt);
        accepted = [];
        queue = is.1.queue ∙ sym (append-nil old.queue);
        came = tt;
        given_back = waits (job_of envelope.stamp) envelope.message ∷ [];
        returned = is.1.returned;
      })
      (λ (is : LetsGo old place envelope new). still_quiet old new is.same)
      does

  -- and what is offered came
  abbrev HasCome : ℕ × ℕ × Message → Type 0
  HasCome offer = Came offer.2

  called : (supply_call : SupplyCall GroupPlace) (old new : Broker) → hand_out_of supply_call ≡ None → IfAny NoDiscard (settlement_of supply_call) → IfAny HasCome (offer_of supply_call)
      → Calls old supply_call new → Quiet old new
  called (Attach request answer) old new none keeps come does = quiet_groups old new does.groups
  called (Withdraw connection) old new none keeps come does = quiet_groups old new does.groups
  called (Kicked connection answer) old new none keeps come does = quiet_groups old new does.groups
  called (Park session now answer) old new none keeps come does = quiet_groups old new does.groups
  called (ParkAsIs session) old new none keeps come does = quiet_groups old new does.1.groups
  called (Keep session) old new none keeps come does = quiet_groups old new does.1.groups
  called (Bury session) old new none keeps come does = quiet_groups old new does.1.groups
  called (Sweep now answer) old new none keeps come does = quiet_groups old new does.groups
  called (LendPlace slot answer) old new none keeps come does = quiet_groups old new does.groups
  called (TakePlace place) old new none keeps come does = quiet_groups old new does.1.groups
  called (Bind share answer) old new none keeps come does = quiet_groups old new does.1.groups
  called (Find share answer) old new none keeps come does = quiet_groups old new (ap (λ (b : Broker). b.groups) does.1)
  called (Match topic slots) old new none keeps come does = quiet_groups old new (ap (λ (b : Broker). b.groups) does.1)
  called (Offer slot connection message answer) old new none keeps come does = is_offered_to old new slot connection message answer come does.0
  called (MayTake place answer) old new none keeps come does = quiet_groups old new (ap (λ (b : Broker). b.groups) does.1)
  called (Take place place' answer) old new none keeps come does = quiet_in old new place.slot _ (λ before after is. is_handed answer before after place place place' none is) does.0
  called (TakeBack place place' answer) old new none keeps come does = quiet_in old new place.slot _ (λ before after is. is_handed_again answer before after place place place' none is) does.0
  called (Settle place place' envelope how) old new none keeps come does = quiet_in old new place.slot _ (λ before after is. is_settled how before after place.number envelope keeps is) does.0
  called (GiveBack place place' envelope (Ok done)) old new none keeps come does = quiet_in old new place.slot _ (λ before after is. is_given_back before after place.number envelope is) does.0
  called (GiveBack place place' envelope (Err back)) old new none keeps come does = absurd does

  none_first : {X : Type 0} (o : Option X) (others : List X) → cons_option o others ≡ [] → (o ≡ None) × (others ≡ [])
  none_first None others is = (refl, is)
  none_first (Some x) others is = absurd (cc)

  first_apart : {X : Type 0} (Q : X → Type 0) (o : Option X) (others : List X) → AllByRecursion Q (cons_option o others) → IfAny Q o × AllByRecursion Q others
  first_apart Q None others all = (tt, all)
  first_apart Q (Some x) others all = all

  all_called : (supply_calls : List (SupplyCall GroupPlace)) (old new : Broker) → handed supply_calls ≡ [] → AllByRecursion NoDiscard (settled supply_calls)
      → AllByRecursion HasCome (offered supply_calls) → MakesAll Calls old supply_calls new → Quiet old new
  all_called [] old new none keeps come made = quiet_groups old new (ap (λ (b : Broker). b.groups) made)
  all_called (supply_call ∷ supply_calls) old new none keeps come made =
      let both = none_first (hand_out_of supply_call) (handed supply_calls) none in
      let apart = first_apart NoDiscard (settlement_of supply_call) (settled supply_calls) keeps in
      let brings = first_apart HasCome (offer_of supply_call) (offered supply_calls) come in
      quiet_then old made.0 new (called supply_call old made.0 both.0 apart.0 brings.0 made.1)
      (all_called supply_calls made.0 new both.1 apart.1 brings.1 made.2)

-- what a PUBACK settles is acknowledged or refused
by_code : (low : Bool) → (if low then fate.Acknowledged else fate.Refused) ≢ fate.Discarded
by_code true is = cc
by_code false is = cc

no_discard : (phase : ConnPhase GroupPlace) (input : Input) (envelope : Held) (how : Fate) → Confirms phase input envelope how → how ≢ fate.Discarded
no_discard (Connected connected) (inputs.Packet (packets.Puback puback)) envelope how confirms is = by_code _ (sym confirms.2 ∙ is)
no_discard phase input envelope how confirms is = absurd (confirms)

none_discarded : (phase : ConnPhase GroupPlace) (input : Input) (supply_calls : List (SupplyCall GroupPlace)) (next : Then)
    → SettlesOne phase input supply_calls [] ⊎ SettlesNone phase input supply_calls next [] → AllByRecursion NoDiscard (settled supply_calls)
none_discarded phase input supply_calls next (inl one) =
    subst (AllByRecursion NoDiscard) (sym one.settles) (no_discard phase input one.envelope one.fate one.confirmed, tt)
none_discarded phase input supply_calls next (inr none) = subst (AllByRecursion NoDiscard) (sym none.settles) tt

-- ---- a step

-- what is offered in it came in it
all_come : (step : TakenStep) (publish : Publish) (slots : List ℕ) → step.input ≡ inputs.Packet (packets.Publish publish)
    → AllByRecursion (HasCome (IsMessageOf step)) (map (λ (slot : ℕ). (slot, step.connection, message_of step.at publish)) slots)
all_come step publish [] came = tt
all_come step publish (slot ∷ slots) came = ((publish, came, refl), all_come step publish slots came)

have_come : (step : TakenStep) (supply_calls : List (SupplyCall GroupPlace)) (next : Then)
    → OffersToEach step.connection step.at step.phase_before step.input supply_calls ⊎ OffersNone step.phase_before step.input supply_calls next → AllByRecursion (HasCome (IsMessageOf step)) (offered supply_calls)
have_come step supply_calls next (inl each) = subst (AllByRecursion (HasCome (IsMessageOf step))) (sym each.offers) (all_come step each.publish each.slots each.came)
have_come step supply_calls next (inr none) = subst (AllByRecursion (HasCome (IsMessageOf step))) (sym none.offers) tt

tells : (step : TakenStep) (mid : Broker) (slot : ℕ) (outcomes : List (Outcome GroupPlace)) → Quiet (IsMessageOf step) step.broker_before mid → HandsInEach mid outcomes step.broker_after
    → (found : Option Group) → slice_get step.broker_after.groups slot ≡ found → Tells step slot (to_slot slot outcomes) found
tells step mid slot outcomes quiet hands None none = (hands.nowhere slot none).1
tells step mid slot outcomes quiet hands (Some group) there =
    let later = hands.at slot group there in
    let earlier = quiet slot later.ready later.was in
    record {
      before = earlier.before;
      was = earlier.was;
      ready = later.ready;
      earlier = earlier.quietly.earlier;
      events = earlier.quietly.events;
      neither = earlier.quietly.neither;
      accepted = earlier.quietly.accepted;
      queue = earlier.quietly.queue;
      came = earlier.quietly.came;
      given_back = earlier.quietly.given_back;
      returned = earlier.quietly.returned;
      hands = later.hands;
    }

discards : (step : TakenStep) → IsLawfulStep step → DiscardsExpiredOrTooLong step
discards step steps =
    let before = calls_of_reply Calls slot_of step.phase_before step.input step.broker_before steps.mid step.connection step.at steps.between steps.reply steps.reacts in
    let quiet : Quiet (IsMessageOf step) step.broker_before steps.mid =
    all_called (IsMessageOf step) before.supply_calls step.broker_before steps.mid before.hands
    (none_discarded step.phase_before step.input before.supply_calls steps.reply.next before.settles) (have_come step before.supply_calls steps.reply.next before.offers) before.made in
    let behind = handed_behind steps.between step.at steps.mid step.broker_after steps.sent step.phase_after steps.hands in
    record {
      outcomes = behind.outcomes;
      fit = behind.fit;
      sent =
          ap fresh_contents steps.written
          ∙ replied_and_sent Calls slot_of step.phase_before step.input step.broker_before steps.mid step.connection step.at steps.between steps.reply steps.sent steps.reacts
          ∙ behind.are;
      told = λ slot. tells step steps.mid slot behind.outcomes quiet behind.hands (slice_get step.broker_after.groups slot) refl;
    }

pub all_discard : (steps : List TakenStep) → AllByRecursion IsLawfulStep steps → AllByRecursion DiscardsExpiredOrTooLong steps
all_discard [] lawful = tt
all_discard (step ∷ steps) lawful = (discards step lawful.0, all_discard steps lawful.1)
