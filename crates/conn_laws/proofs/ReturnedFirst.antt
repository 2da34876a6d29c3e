-- What was given back is handed out first, among the calls of a step.
use Rattle.std.proofs.Common.{◌≡◌, ◌≢◌, ◌⊎◌, ℕ, nat_lt, Bool, true, false, if◌then◌else◌, List, [], ◌∷◌, ◌++◌, Option, Some, None, Ok, refl, sym, ap, subst, ◌∙◌, inl, inr, ⊎_elim}
use Rattle.std.specs.List.{AllByRecursion, cons_option}
use Rattle.mqtt_packet.specs.declared.packet.Packet.{Packet}
use Rattle.mqtt_packet.specs.declared.packet.Packet.TheVariants as packets
use Rattle.group_jobs.specs.declared.fate.Fate.{Fate}
use Rattle.group_jobs.specs.declared.fate.Fate.TheVariants as fate
use Rattle.group_jobs.specs.Stamps.{Held}
use Rattle.member_window.specs.Contents.{Contents}
use Rattle.session_desk.specs.declared.session.Membership.{Membership}
use Rattle.session_desk.specs.declared.session.Membership.TheVariants.{NotMember, Member, Leaving}
use Rattle.conn_rules.specs.declared.hand_outs.HandOutTerms.{HandOutTerms}
use Rattle.conn_supply.specs.declared.reply.Then.{Then}
use Rattle.conn_supply.specs.declared.reply.Reply.{Reply}
use Rattle.conn_supply.specs.SupplyCalls.{SupplyCall}
use Rattle.conn_supply.specs.SupplyCalls.SupplyCall.{MayTake, Take, TakeBack, TakePlace, Settle}
use Rattle.conn_supply.specs.HandOuts.{AsksFor, Discards, Finds, LooksFor, SendsFresh, LeavesWith, HandsFresh}
use Rattle.conn_engine.specs.declared.input.Input.{Input}
use Rattle.conn_engine.specs.declared.input.Input.TheVariants as inputs
use Rattle.conn_engine.specs.declared.phase.ConnPhase.{ConnPhase}
use Rattle.conn_engine.specs.declared.phase.ConnPhase.TheVariants.{Unconnected, Waiting, Connected, Ended}
use Rattle.conn_engine.specs.Step.{hand_out_terms, Reacts, Hands, Steps}
use Rattle.conn_laws.specs.Calls.{hand_out_of, handed, settlement_of, settled, Confirms, SettlesOne, SettlesNone}
use Rattle.conn_laws.specs.ReturnedFirst.{HandedOut, MayFollow, FollowInOrder, CallsReturnedFirst}
use Rattle.conn_laws.proofs.Calling.{Plain, joins}
use Rattle.conn_laws.proofs.Stepping.{reacted}

-- no call handed nothing out
never_handed : {P : Type 0} (place : P) (envelope : Held) → HandedOut None place envelope → ⊥
never_handed place envelope (before, inl back) = cc
never_handed place envelope (before, inr queued) = cc

-- what may follow no call may follow any
follows_any : {P : Type 0} (last : Option (SupplyCall P)) (supply_call : SupplyCall P) → MayFollow None supply_call → MayFollow last supply_call
follows_any last (Take place place' (Ok (Some envelope))) may = let none = may.1 in absurd (cc)
follows_any last (Settle place place' envelope fate.Discarded) may = absurd (never_handed place envelope may)
follows_any last (Settle place place' envelope fate.Acknowledged) may = tt
follows_any last (Settle place place' envelope fate.Refused) may = tt
follows_any last other may = tt

all_follow_any : {P : Type 0} (last : Option (SupplyCall P)) (supply_calls : List (SupplyCall P)) → FollowInOrder None supply_calls → FollowInOrder last supply_calls
all_follow_any last [] order = tt
all_follow_any last (supply_call ∷ supply_calls) order = (follows_any last supply_call order.0, order.1)

both : {P : Type 0} (last : Option (SupplyCall P)) (supply_calls others : List (SupplyCall P)) → FollowInOrder last supply_calls → FollowInOrder None others → FollowInOrder last (supply_calls ++ others)
both last [] others these those = all_follow_any last others those
both last (supply_call ∷ supply_calls) others these those = (these.0, both (Some supply_call) supply_calls others these.1 those)

-- a settlement that is no discard
abbrev NoDiscard : Held × Fate → Type 0
NoDiscard settlement = settlement.1 ≢ fate.Discarded

-- calls that hand nothing out, and discard nothing
follows_plainly : {P : Type 0} (last : Option (SupplyCall P)) (supply_call : SupplyCall P) (others : List (Held × Fate)) → hand_out_of supply_call ≡ None
    → AllByRecursion NoDiscard (cons_option (settlement_of supply_call) others) → MayFollow last supply_call × AllByRecursion NoDiscard others
follows_plainly last (Take place place' (Ok (Some envelope))) others none all = absurd (cc)
follows_plainly last (Settle place place' envelope fate.Discarded) others none all = absurd (all.0 refl)
follows_plainly last (Settle place place' envelope fate.Acknowledged) others none all = (tt, all.1)
follows_plainly last (Settle place place' envelope fate.Refused) others none all = (tt, all.1)
follows_plainly last other others none all = (tt, all)

none_of : {A : Type 0} (found : Option A) (others : List A) → cons_option found others ≡ [] → (found ≡ None) × (others ≡ [])
none_of None others none = (refl, none)
none_of (Some one) others none = absurd (cc)

all_plain : {P : Type 0} (last : Option (SupplyCall P)) (supply_calls : List (SupplyCall P)) → handed supply_calls ≡ [] → AllByRecursion NoDiscard (settled supply_calls) → FollowInOrder last supply_calls
all_plain last [] none all = tt
all_plain last (supply_call ∷ supply_calls) none all =
    let neither = none_of (hand_out_of supply_call) (handed supply_calls) none in
    let first = follows_plainly last supply_call (settled supply_calls) neither.0 all in
    (first.0, all_plain (Some supply_call) supply_calls neither.1 first.1)

-- a PUBACK discards nothing
fate_by : (success : Bool) → (if success then fate.Acknowledged else fate.Refused) ≢ fate.Discarded
fate_by true is = cc
fate_by false is = cc

confirmed_fate : {P : Type 0} (phase : ConnPhase P) (input : Input) (envelope : Held) (how : Fate) → Confirms phase input envelope how → how ≢ fate.Discarded
confirmed_fate (Connected connected) (inputs.Packet (packets.Puback puback)) envelope how confirms is = fate_by (nat_lt puback.reason_code 128) (sym confirms.2 ∙ is)
confirmed_fate phase input envelope how confirms is = absurd confirms

settles_plainly : {P : Type 0} (phase : ConnPhase P) (input : Input) (next : Then) (supply_calls : List (SupplyCall P))
    → SettlesOne phase input supply_calls [] ⊎ SettlesNone phase input supply_calls next [] → AllByRecursion NoDiscard (settled supply_calls)
settles_plainly phase input next supply_calls (inl one) =
    subst (AllByRecursion NoDiscard) (sym one.settles) (confirmed_fate phase input one.envelope one.fate one.confirmed, tt)
settles_plainly phase input next supply_calls (inr none) = subst (AllByRecursion NoDiscard) (sym none.settles) tt

module _ {S P : Type 0} (call : S → SupplyCall P → S → Type 0) where
  pub none : (old new : S) → new ≡ old → CallsReturnedFirst call old new
  none old new same = record { supply_calls = []; made = same; order = tt }

  pub one : (old new : S) (supply_call : SupplyCall P) → call old supply_call new → MayFollow None supply_call → CallsReturnedFirst call old new
  one old new supply_call called may = record { supply_calls = supply_call ∷ []; made = (new, called, refl); order = (may, tt) }

  pub behind : (old mid new : S) → CallsReturnedFirst call old mid → CallsReturnedFirst call mid new → CallsReturnedFirst call old new
  behind old mid new these those =
      record {
        supply_calls = these.supply_calls ++ those.supply_calls;
        made = joins call these.supply_calls those.supply_calls old mid new these.made those.made;
        order = both None these.supply_calls those.supply_calls these.order those.order;
      }

  -- a place asks for a message
  found_or_not : (found : Option Held) (before between place' : P) → MayFollow (Some (TakeBack before between (Ok None))) (Take between place' (Ok found))
  found_or_not None before between place' = tt
  found_or_not (Some envelope) before between place' = (before, refl)

  pub asked_for : (found : Option Held) (old new : S) (place place' : P) → AsksFor call old place found place' new → CallsReturnedFirst call old new
  asked_for found old new place place' (inl back) = one old new (TakeBack place place' (Ok (Some back.0))) back.2 tt
  asked_for found old new place place' (inr queued) =
      record {
        supply_calls = TakeBack place queued.0 (Ok None) ∷ Take queued.0 place' (Ok found) ∷ [];
        made = (queued.1, queued.2, (new, queued.3, refl));
        order = (tt, (found_or_not found place queued.0 place', tt));
      }

  -- one is discarded, as soon as it was handed out
  discarded_at : (place taken place' : P) (envelope : Held) (old mid new : S) → call old (MayTake place true) old → AsksFor call old place (Some envelope) taken mid → call mid (Settle taken place' envelope fate.Discarded) new
      → CallsReturnedFirst call old new
  discarded_at place taken place' envelope old mid new allowed (inl back) settled =
      record {
        supply_calls = MayTake place true ∷ TakeBack place taken (Ok (Some back.0)) ∷ Settle taken place' envelope fate.Discarded ∷ [];
        made = (old, allowed, (mid, back.2, (new, settled, refl)));
        order = (tt, (tt, ((place, inl (ap (λ found. Some (TakeBack place taken (Ok found))) (sym back.1))), tt)));
      }
  discarded_at place taken place' envelope old mid new allowed (inr queued) settled =
      record {
        supply_calls = MayTake place true ∷ TakeBack place queued.0 (Ok None) ∷ Take queued.0 taken (Ok (Some envelope)) ∷ Settle taken place' envelope fate.Discarded ∷ [];
        made = (old, allowed, (queued.1, queued.2, (mid, queued.3, (new, settled, refl))));
        order = (tt, (tt, ((place, refl), ((queued.0, inr refl), tt))));
      }

  pub discarded_all : (terms : HandOutTerms) (envelopes : List Held) (old new : S) (place place' : P) → Discards call terms old place envelopes place' new → CallsReturnedFirst call old new
  discarded_all terms [] old new place place' discards = none old new discards.1
  discarded_all terms (envelope ∷ envelopes) old new place place' discards =
      let first = discards.2 in
      behind old discards.1 new (discarded_at place first.taken discards.0 envelope old first.mid discards.1 first.allowed first.asked first.settled)
      (discarded_all terms envelopes discards.1 new discards.0 place' discards.3)

  -- the supply allows one more, and it is asked for
  pub allowed_and_asked : (found : Option Held) (old new : S) (place place' : P) → call old (MayTake place true) old → AsksFor call old place found place' new → CallsReturnedFirst call old new
  allowed_and_asked found old new place place' allowed asked = behind old old new (one old old (MayTake place true) allowed tt) (asked_for found old new place place' asked)

  finds : (terms : HandOutTerms) (found : Option Held) (old new : S) (place place' : P) → Finds call terms old place found place' new → CallsReturnedFirst call old new
  finds terms None old new place place' (inl asked) = allowed_and_asked None old new place place' asked.0 asked.1
  finds terms None old new place place' (inr stop) = behind old old new (one old old (MayTake place false) stop.2 tt) (none old new stop.1)
  finds terms (Some envelope) old new place place' found = allowed_and_asked (Some envelope) old new place place' found.0 found.1

  looked_for : (terms : HandOutTerms) (found : Option Held) (old new : S) (place place' : P) → LooksFor call terms old place found place' new → CallsReturnedFirst call old new
  looked_for terms found old new place place' looks =
      behind old looks.mid new (discarded_all terms looks.discarded old looks.mid place looks.between looks.passed)
      (⊎_elim (λ few. finds terms found looks.mid new looks.between place' few.1) (λ most. none looks.mid new most.3) looks.ended)

  sent_fresh : (terms : HandOutTerms) (packets : List Packet) (old new : S) (place place' : P) (window window' : Contents Held) → SendsFresh call terms old place window packets place' window' new
      → CallsReturnedFirst call old new
  sent_fresh terms [] old new place place' window window' (same, inl full) = none old new full.2
  sent_fresh terms [] old new place place' window window' (same, inr nothing) = looked_for terms None old new place place' nothing.1
  sent_fresh terms (packet ∷ packets) old new place place' window window' sends =
      behind old sends.2 new (looked_for terms (Some sends.3.envelope) old sends.2 place sends.0 sends.3.found) (sent_fresh terms packets sends.2 new sends.0 place' sends.1 window' sends.4)

  left_with : (old new : S) (place : P) (window : Contents Held) (membership : Membership P) → LeavesWith call old place window membership new → CallsReturnedFirst call old new
  left_with old new place window membership (inl gone) = one old new (TakePlace place) gone.2 tt
  left_with old new place window membership (inr stays) = none old new stays.2

  handed_fresh : (terms : HandOutTerms) (membership : Membership P) (old new : S) (window : Contents Held) (packets : List Packet) (membership' : Membership P) (window' : Contents Held)
      → HandsFresh call terms old membership window packets membership' window' new → CallsReturnedFirst call old new
  handed_fresh terms NotMember old new window packets membership' window' hands = none old new hands.3
  handed_fresh terms (Member place) old new window packets membership' window' hands = sent_fresh terms packets old new place hands.0 window window' hands.2
  handed_fresh terms (Leaving place) old new window packets membership' window' hands = left_with old new place window membership' hands.2

  -- calls that hand nothing out, and settle nothing
  pub plain : {before after : List P} (old new : S) → Plain call [] [] before after old new → CallsReturnedFirst call old new
  plain old new calls = record { supply_calls = calls.supply_calls; made = calls.made; order = all_plain None calls.supply_calls calls.hands (subst (AllByRecursion NoDiscard) (sym calls.settles) tt) }

  module _ (slot_of : P → ℕ) where
    -- the reply hands nothing out, and discards nothing
    pub reacts : (phase : ConnPhase P) (input : Input) (old new : S) (number now : ℕ) (between : ConnPhase P) (reply : Reply)
        → Reacts call slot_of old number phase now input between reply new → CallsReturnedFirst call old new
    reacts phase input old new number now between reply is =
        let calls = reacted call slot_of phase input old new number now between reply is in
        record {
          supply_calls = calls.supply_calls;
          made = calls.made;
          order = all_plain None calls.supply_calls calls.hands (settles_plainly phase input reply.next calls.supply_calls calls.settles);
        }

    hands : (between : ConnPhase P) (now : ℕ) (old new : S) (sent : List Packet) (phase : ConnPhase P) → Hands call slot_of old between now sent phase new → CallsReturnedFirst call old new
    hands (Unconnected opened) now old new sent phase is = none old new is.2
    hands (Waiting request ticks) now old new sent phase is = none old new is.2
    hands (Connected connected) now old new sent phase is = handed_fresh (hand_out_terms connected now) connected.session.membership old new is.2.between is.2.fresh is.0 is.1 is.2.sent_fresh
    hands Ended now old new sent phase is = none old new is.2

    pub stepped : (old new : S) (number now : ℕ) (phase phase' : ConnPhase P) (input : Input) (packets : List Packet) (next : Then)
        → Steps call slot_of old number phase now input packets next phase' new → CallsReturnedFirst call old new
    stepped old new number now phase phase' input packets next steps =
        behind old steps.mid new (reacts phase input old steps.mid number now steps.between steps.reply steps.reacts)
        (hands steps.between now steps.mid new steps.sent phase' steps.hands)
