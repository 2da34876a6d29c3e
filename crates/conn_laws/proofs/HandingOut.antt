-- What is handed out after a reply: the calls of the supply, those of the session's window, and the marks that these make.
use Rattle.std.proofs.Common.{◌≡◌, ℕ, Bool, true, false, not, List, [], ◌∷◌, ◌++◌, map, Option, Some, None, Ok, ◌⊎◌, refl, sym, ap, subst, ◌∙◌, append-nil, inl, inr, ⊎_elim}
use Rattle.std.specs.List.{AllByRecursion}
use Rattle.std.proofs.lemmas.List.{map-append}
use Rattle.std.proofs.lemmas.List.Elements.{filter_map-append}
use Rattle.mqtt_packet.specs.declared.packet.Packet.{Packet}
use Rattle.group_jobs.specs.Stamps.{Held, under}
use Rattle.group_jobs.specs.declared.fate.Fate.{Fate}
use Rattle.group_jobs.specs.declared.fate.Fate.TheVariants.{Discarded}
use Rattle.member_window.specs.Contents.{Contents, after_resend}
use Rattle.member_window.specs.Calls.{Call, Put, NextResend}
use Rattle.member_window.specs.Runs.{transcript_of}
use Rattle.member_window.specs.Runs as windows
use Rattle.session_desk.specs.Everything.{place_in}
use Rattle.session_desk.specs.declared.session.Membership.{Membership}
use Rattle.session_desk.specs.declared.session.Membership.TheVariants.{NotMember, Member, Leaving}
use Rattle.conn_rules.specs.declared.hand_outs.HandOutTerms.{HandOutTerms}
use Rattle.conn_rules.specs.Packets.{job}
use Rattle.conn_supply.specs.SupplyCalls.{SupplyCall}
use Rattle.conn_supply.specs.SupplyCalls.SupplyCall.{MayTake, TakeBack, Take}
use Rattle.conn_supply.specs.HandOuts.{SendsAgain, AsksFor, DiscardsOne, Discards, Finds, LooksFor, SendsFresh, LeavesWith, HandsFresh, HandsOut}
use Rattle.conn_laws.specs.Calls.{handed, Outcome, if_sent, if_discarded, hand_outs_of, sent_of, discards_of, IsSentIfFit, Content, content_of, contents_of, fresh_content, fresh_contents, AsksForMessage}
use Rattle.conn_laws.specs.Marks.{publishes_in, publishes_of, fresh_of, acknowledged_of, IsWithin}
use Rattle.conn_laws.specs.Transcripts.{HasOneAs, KeepsNumbers}
use Rattle.conn_laws.specs.Places.{KeepsInTurn, KeepsPlaces}
use Rattle.conn_laws.proofs.Aside.{Aside, all_of_both}
use Rattle.conn_laws.proofs.Aside as asides
use Rattle.conn_laws.proofs.InTurn.{InTurn, still, hand, one, discard, after, behind}

-- calls of a window whose marks, made at this moment, are these PUBLISH packets; these items go out for the first time
pub record Sends (now : ℕ) (old : Contents Held) (sent : List Packet) (fresh : List Held) (new : Contents Held) : Type 0 where
  pub calls : List (Call Held)
  pub made : windows.MakesAll old calls new
  pub within : AllByRecursion IsWithin (transcript_of calls)
  pub publishes : publishes_in sent ≡ publishes_of now (transcript_of calls)
  pub fresh_are : fresh ≡ fresh_of (transcript_of calls)
  pub none_acked : acknowledged_of (transcript_of calls) ≡ []

sends_none : (now : ℕ) (old new : Contents Held) → new ≡ old → Sends now old [] [] new
sends_none now old new same = record { calls = []; made = same; within = tt; publishes = refl; fresh_are = refl; none_acked = refl }

-- what is sent again goes before the rest
again_before : (now : ℕ) (packets more : List Packet) (fresh : List Held) (old mid new : Contents Held) → SendsAgain now old packets mid → Sends now mid more fresh new → Sends now old (packets ++ more) fresh new
again_before now [] more fresh old mid new again rest = subst (λ window. Sends now window more fresh new) again.1 rest
again_before now (packet ∷ packets) more fresh old mid new again rest =
    let others = again_before now packets more fresh (after_resend old (Some again.0)) mid new again.3 rest in
    record {
      calls = NextResend (Some again.0) ∷ others.calls;
      made = (tt, (after_resend old (Some again.0), (again.1, refl), others.made));
      within = (tt, others.within);
      publishes = ap (λ p. publishes_in (p ∷ (packets ++ more))) again.2 ∙ ap (λ ps. job now true again.0.1.message again.0.1.subscription again.0.0 ∷ ps) others.publishes;
      fresh_are = others.fresh_are;
      none_acked = others.none_acked;
    }

-- and is not sent for the first time
none_fresh_again : (now : ℕ) (packets : List Packet) (old new : Contents Held) → SendsAgain now old packets new → fresh_contents packets ≡ []
none_fresh_again now [] old new again = refl
none_fresh_again now (packet ∷ packets) old new again =
    ap (λ p. fresh_contents (p ∷ packets)) again.2 ∙ none_fresh_again now packets (after_resend old (Some again.0)) new again.3

-- what was found from this place, if anything was
abbrev pub given_in : {P : Type 0} → P → Option Held → List (P × Held)
given_in from None = []
given_in from (Some envelope) = (from, envelope) ∷ []

-- these calls ask for messages for one place, which a member has then
abbrev pub AsksOnlyFor : {P : Type 0} → List P → List (SupplyCall P) → Membership P → Type 0
AsksOnlyFor {P} places supply_calls membership =
    (place place' : P) × (places ≡ place ∷ []) × (membership ≡ Member place') × KeepsInTurn (place ∷ []) supply_calls (place' ∷ []) × AllByRecursion AsksForMessage supply_calls

module _ {S P : Type 0} (call : S → SupplyCall P → S → Type 0) where
  -- a place was asked for a message, and was what it is
  pub record Asked (old : S) (place : P) (found : Option Held) (place' : P) (new : S) : Type 0 where
    pub from : P
    pub calls : InTurn call (given_in from found) [] (place ∷ []) (place' ∷ []) old new
    pub stays : (of : P → ℕ) → KeepsNumbers call of → (of from ≡ of place) × (of place' ≡ of place)

  asked_later : (found : Option Held) (old mid new : S) (place between place' : P) → call old (TakeBack place between (Ok None)) mid → call mid (Take between place' (Ok found)) new
      → Asked old place found place' new
  asked_later None old mid new place between place' first last =
      record {
        from = between;
        calls = behind call old mid new (one call [] old mid _ first tt tt refl refl refl refl) (one call [] mid new _ last tt tt refl refl refl refl);
        stays = λ of keeps. (keeps old mid _ first, keeps mid new _ last ∙ keeps old mid _ first);
      }
  asked_later (Some envelope) old mid new place between place' first last =
      record {
        from = between;
        calls = after call [] ((between, envelope) ∷ []) old mid new (one call [] old mid _ first tt tt refl refl refl refl) (hand call [] (Some (between, envelope)) mid new _ last tt tt refl refl refl refl);
        stays = λ of keeps. (keeps old mid _ first, keeps mid new _ last ∙ keeps old mid _ first);
      }

  pub asked_for : (found : Option Held) (old new : S) (place place' : P) → AsksFor call old place found place' new → Asked old place found place' new
  asked_for found old new place place' (inl back) =
      record {
        from = place;
        calls = subst (λ f. InTurn call (given_in place f) [] (place ∷ []) (place' ∷ []) old new) (sym back.1) (hand call [] (Some (place, back.0)) old new _ back.2 tt tt refl refl refl refl);
        stays = λ of keeps. (refl, keeps old new _ back.2);
      }
  asked_for found old new place place' (inr queued) = asked_later found old queued.1 new place queued.0 place' queued.2 queued.3

-- nothing of these is sent
pub none_sent_behind : {P : Type 0} (these those : List (Outcome P)) → sent_of these ≡ [] → sent_of (these ++ those) ≡ sent_of those
none_sent_behind these those none = filter_map-append (λ o. if_sent o.sent o.hand_out) these those ∙ ap (λ (l : List _). l ++ sent_of those) none

-- these outcomes, and then those
pub hands_of_both : {P : Type 0} (these those : List (Outcome P)) → hand_outs_of (these ++ those) ≡ hand_outs_of these ++ hand_outs_of those
hands_of_both these those = map-append (λ o. o.hand_out) these those

pub discards_of_both : {P : Type 0} (these those : List (Outcome P)) → discards_of (these ++ those) ≡ discards_of these ++ discards_of those
discards_of_both these those = filter_map-append (λ o. if_discarded o.sent o.hand_out) these those

-- these are discarded
abbrev pub all_discarded : List Held → List (Held × Fate)
all_discarded envelopes = map (λ envelope. (envelope, Discarded)) envelopes

-- what is discarded where messages go out
module _ {S P : Type 0} (call : S → SupplyCall P → S → Type 0) (terms : HandOutTerms) where
  abbrev pub discarded_fresh : (packets : List Packet) (old new : S) (place place' : P) (window window' : Contents Held) → SendsFresh call terms old place window packets place' window' new → List Held
  discarded_fresh [] old new place place' window window' (same, inl full) = []
  discarded_fresh [] old new place place' window window' (same, inr none) = none.1.discarded
  discarded_fresh (packet ∷ packets) old new place place' window window' sends =
      sends.3.found.discarded ++ discarded_fresh packets sends.2 new sends.0 place' sends.1 window' sends.4

  abbrev pub discarded_in : (membership : Membership P) (old new : S) (window : Contents Held) (packets : List Packet) (membership' : Membership P) (window' : Contents Held)
      → HandsFresh call terms old membership window packets membership' window' new → List Held
  discarded_in NotMember old new window packets membership' window' hands = []
  discarded_in (Member place) old new window packets membership' window' hands = discarded_fresh packets old new place hands.0 window window' hands.2
  discarded_in (Leaving place) old new window packets membership' window' hands = []

-- to a client that is sent its messages under these terms
module _ {S P : Type 0} (call : S → SupplyCall P → S → Type 0) (terms : HandOutTerms) where
  -- the place is one that has the same numbers as this one
  abbrev AreFrom : P → List (P × Held) → Type 0
  AreFrom place hand_outs = (of : P → ℕ) → KeepsNumbers call of → AllByRecursion (λ (h : P × Held). of h.0 ≡ of place) hand_outs

  abbrev Stays : P → P → Type 0
  Stays place place' = (of : P → ℕ) → KeepsNumbers call of → of place' ≡ of place

  -- the calls of hand-outs to one place, one after the other, with what becomes of each
  pub record Asks (outcomes : List (Outcome P)) (old : S) (place place' : P) (new : S) : Type 0 where
    pub calls : InTurn call (hand_outs_of outcomes) (discards_of outcomes) (place ∷ []) (place' ∷ []) old new
    pub from : AreFrom place (hand_outs_of outcomes)
    pub stays : Stays place place'

  all_from : (these those : List (P × Held)) (place between : P) → AreFrom place these → AreFrom between those → Stays place between → AreFrom place (these ++ those)
  all_from these those place between from later stays of keeps =
      all_of_both (λ (h : P × Held). of h.0 ≡ of place) these those (from of keeps) (subst (λ (n : ℕ). AllByRecursion (λ (h : P × Held). of h.0 ≡ n) those) (stays of keeps) (later of keeps))

  pub asks_on : (these those : List (Outcome P)) (old mid new : S) (place between place' : P) → Asks these old place between mid → Asks those mid between place' new → Asks (these ++ those) old place place' new
  asks_on these those old mid new place between place' first last =
      record {
        calls =
            subst (λ (hands : List (P × Held)). InTurn call hands (discards_of (these ++ those)) (place ∷ []) (place' ∷ []) old new) (sym (hands_of_both these those))
            (subst (λ (discards : List (Held × Fate)). InTurn call (hand_outs_of these ++ hand_outs_of those) discards (place ∷ []) (place' ∷ []) old new) (sym (discards_of_both these those))
            (after call (hand_outs_of these) (hand_outs_of those) old mid new first.calls last.calls));
        from =
            subst (AreFrom place) (sym (hands_of_both these those)) (all_from (hand_outs_of these) (hand_outs_of those) place between first.from last.from first.stays);
        stays = λ of keeps. last.stays of keeps ∙ first.stays of keeps;
      }

  pub still_there : (old new : S) (place place' : P) → place' ≡ place → new ≡ old → Asks [] old place place' new
  still_there old new place place' same_place same =
      record { calls = still call old new (ap (λ p. p ∷ []) same_place) same; from = λ of keeps. tt; stays = λ of keeps. ap of same_place }

  -- whether one more may be taken
  pub may_take : (old : S) (place : P) (answer : Bool) → call old (MayTake place answer) old → Asks [] old place place old
  may_take old place answer asked =
      record { calls = one call (place ∷ []) old old _ asked tt tt refl refl refl refl; from = λ of keeps. tt; stays = λ of keeps. refl }

  -- nothing was found for it
  none_asked : (old new : S) (place place' : P) → AsksFor call old place None place' new → Asks [] old place place' new
  none_asked old new place place' asks =
      let asked = asked_for call None old new place place' asks in
      record { calls = asked.calls; from = λ of keeps. tt; stays = λ of keeps. (asked.stays of keeps).1 }

  -- one is found, which is sent
  pub some_asked : (envelope : Held) (old new : S) (place place' : P) → AsksFor call old place (Some envelope) place' new
      → (from : P) × Asks (record { hand_out = (from, envelope); sent = true } ∷ []) old place place' new
  some_asked envelope old new place place' asks =
      let asked = asked_for call (Some envelope) old new place place' asks in (
        asked.from,
        record {
          calls = asked.calls;
          from = λ of keeps. ((asked.stays of keeps).0, tt);
          stays = λ of keeps. (asked.stays of keeps).1;
        },
      )

  -- one is found, and discarded
  one_discarded : (envelope : Held) (old new : S) (place place' : P) → DiscardsOne call terms old place envelope place' new
      → (from : P) × Asks (record { hand_out = (from, envelope); sent = false } ∷ []) old place place' new
  one_discarded envelope old new place place' discards =
      let asked = asked_for call (Some envelope) old discards.mid place discards.taken discards.asked in
      let allowed = one call (place ∷ []) old old _ discards.allowed tt tt refl refl refl refl in
      let settled = discard call [] discards.taken place' envelope discards.mid new discards.settled in (
        asked.from,
        record {
          calls = after call [] ((asked.from, envelope) ∷ []) old old new allowed (after call ((asked.from, envelope) ∷ []) [] old discards.mid new asked.calls settled);
          from = λ of keeps. ((asked.stays of keeps).0, tt);
          stays = λ of keeps. keeps discards.mid new _ discards.settled ∙ (asked.stays of keeps).1;
        },
      )

  -- outcomes of which none is sent, and these are discarded
  pub record AllDiscarded (envelopes : List Held) (old : S) (place place' : P) (new : S) : Type 0 where
    pub outcomes : List (Outcome P)
    pub discards : discards_of outcomes ≡ all_discarded envelopes
    pub none_sent : sent_of outcomes ≡ []
    pub fit : AllByRecursion (IsSentIfFit terms) outcomes
    pub asks : Asks outcomes old place place' new

  pub discarded_all : (envelopes : List Held) (old new : S) (place place' : P) → Discards call terms old place envelopes place' new → AllDiscarded envelopes old place place' new
  discarded_all [] old new place place' discards = record { outcomes = []; discards = refl; none_sent = refl; fit = tt; asks = still_there old new place place' discards.0 discards.1 }
  discarded_all (envelope ∷ envelopes) old new place place' discards =
      let first = one_discarded envelope old discards.1 place discards.0 discards.2 in
      let rest = discarded_all envelopes discards.1 new discards.0 place' discards.3 in
      record {
        outcomes = record { hand_out = (first.0, envelope); sent = false } ∷ rest.outcomes;
        discards = ap (λ (l : List (Held × Fate)). (envelope, Discarded) ∷ l) rest.discards;
        none_sent = rest.none_sent;
        fit = (ap not (sym discards.2.reason), rest.fit);
        asks = asks_on _ rest.outcomes old discards.1 new place discards.0 place' first.1 rest.asks;
      }

  ended_with_none : (old new : S) (place place' : P) → Finds call terms old place None place' new → Asks [] old place place' new
  ended_with_none old new place place' (inl none) = asks_on [] [] old old new place place place' (may_take old place true none.0) (none_asked old new place place' none.1)
  ended_with_none old new place place' (inr stop) = asks_on [] [] old old new place place place' (may_take old place false stop.2) (still_there old new place place' stop.0 stop.1)

  -- nothing is found
  looked_in_vain : (old new : S) (place place' : P) (looks : LooksFor call terms old place None place' new) → AllDiscarded looks.discarded old place place' new
  looked_in_vain old new place place' looks =
      let before = discarded_all looks.discarded old looks.mid place looks.between looks.passed in
      let last : Asks [] looks.mid looks.between place' new =
      ⊎_elim (λ few. ended_with_none looks.mid new looks.between place' few.1) (λ most. still_there looks.mid new looks.between place' most.2 most.3) looks.ended in
      record {
        outcomes = before.outcomes ++ [];
        discards = ap discards_of (append-nil before.outcomes) ∙ before.discards;
        none_sent = none_sent_behind before.outcomes [] before.none_sent;
        fit = all_of_both (IsSentIfFit terms) before.outcomes [] before.fit tt;
        asks = asks_on before.outcomes [] old looks.mid new place looks.between place' before.asks last;
      }

  -- one is found, after others that were discarded
  pub record Found (envelope : Held) (discarded : List Held) (old : S) (place place' : P) (new : S) : Type 0 where
    pub from : P
    pub earlier : List (Outcome P)
    pub discards : discards_of earlier ≡ all_discarded discarded
    pub none_sent : sent_of earlier ≡ []
    pub fit : AllByRecursion (IsSentIfFit terms) (earlier ++ record { hand_out = (from, envelope); sent = true } ∷ [])
    pub asks : Asks (earlier ++ record { hand_out = (from, envelope); sent = true } ∷ []) old place place' new

  some_never : {envelope : Held} → Some envelope ≡ None → ⊥
  some_never e = cc

  looked_and_found : (envelope : Held) (old new : S) (place place' : P) (looks : LooksFor call terms old place (Some envelope) place' new) → Found envelope looks.discarded old place place' new
  looked_and_found envelope old new place place' looks =
      let before = discarded_all looks.discarded old looks.mid place looks.between looks.passed in
      ⊎_elim
      (λ few.
      let last = some_asked envelope looks.mid new looks.between place' few.1.1 in
      record {
        from = last.0;
        earlier = before.outcomes;
        discards = before.discards;
        none_sent = before.none_sent;
        fit = all_of_both (IsSentIfFit terms) before.outcomes (record { hand_out = (last.0, envelope); sent = true } ∷ []) before.fit (ap not (sym few.1.2), tt);
        asks =
            asks_on before.outcomes _ old looks.mid new place looks.between place' before.asks
            (asks_on [] _ looks.mid looks.mid new looks.between looks.between place' (may_take looks.mid looks.between true few.1.0) last.1);
      })
      (λ most. absurd (some_never most.1))
      looks.ended

  -- the calls of a hand-out, to a session with these places and this window, which has this membership then and that window
  pub record Handed (discarded : List Held) (old : S) (places : List P) (window : Contents Held) (sent : List Packet) (membership' : Membership P) (window' : Contents Held) (new : S) : Type 0 where
    pub outcomes : List (Outcome P)
    pub calls : Aside call (hand_outs_of outcomes) (discards_of outcomes) places (place_in membership') old new
    pub to_one : (handed calls.supply_calls ≡ []) ⊎ AsksOnlyFor places calls.supply_calls membership'
    pub sends : Sends terms.at window sent (map (λ (h : P × Held). under terms.subscription h.1) (sent_of outcomes)) window'
    pub own : (of : P → ℕ) → KeepsNumbers call of → AllByRecursion (λ (h : P × Held). HasOneAs of membership' h.0) (hand_outs_of outcomes)
    pub fit : AllByRecursion (IsSentIfFit terms) outcomes
    pub discards : discards_of outcomes ≡ all_discarded discarded
    pub contents : fresh_contents sent ≡ contents_of (sent_of outcomes)

  hands_none : {places : List P} (old new : S) (window : Contents Held) (sent : List Packet) (membership' : Membership P) (window' : Contents Held) → sent ≡ [] → window' ≡ window → Aside call [] [] places (place_in membership') old new
      → Handed [] old places window sent membership' window' new
  hands_none {places} old new window sent membership' window' none same calls =
      subst (λ packets. Handed [] old places window packets membership' window' new) (sym none)
      (record { outcomes = []; calls = calls; to_one = inl calls.hands; sends = sends_none terms.at window window' same; own = λ of keeps. tt; fit = tt; discards = refl; contents = refl })

  -- to the place of a member, which keeps its numbers
  pub record HandedTo (discarded : List Held) (old : S) (place : P) (window : Contents Held) (sent : List Packet) (place' : P) (window' : Contents Held) (new : S) : Type 0 where
    pub outcomes : List (Outcome P)
    pub asks : Asks outcomes old place place' new
    pub fit : AllByRecursion (IsSentIfFit terms) outcomes
    pub sends : Sends terms.at window sent (map (λ (h : P × Held). under terms.subscription h.1) (sent_of outcomes)) window'
    pub discards : discards_of outcomes ≡ all_discarded discarded
    pub contents : fresh_contents sent ≡ contents_of (sent_of outcomes)

  none_to : (envelopes : List Held) (old new : S) (place place' : P) (window window' : Contents Held) → window' ≡ window → AllDiscarded envelopes old place place' new
      → HandedTo envelopes old place window [] place' window' new
  none_to envelopes old new place place' window window' same discarded =
      record {
        outcomes = discarded.outcomes;
        asks = discarded.asks;
        fit = discarded.fit;
        sends =
            subst (λ (l : List (P × Held)). Sends terms.at window [] (map (λ (h : P × Held). under terms.subscription h.1) l) window') (sym discarded.none_sent) (sends_none terms.at window window' same);
        discards = discarded.discards;
        contents = ap contents_of (sym discarded.none_sent);
      }

  -- what is sent of these, where of the earlier ones nothing is
  sent_last : (from : P) (envelope : Held) (earlier later : List (Outcome P)) → sent_of earlier ≡ []
      → sent_of ((earlier ++ record { hand_out = (from, envelope); sent = true } ∷ []) ++ later) ≡ (from, envelope) ∷ sent_of later
  sent_last from envelope earlier later none =
      filter_map-append (λ o. if_sent o.sent o.hand_out) (earlier ++ record { hand_out = (from, envelope); sent = true } ∷ []) later
      ∙ ap (λ (l : List (P × Held)). l ++ sent_of later) (none_sent_behind earlier (record { hand_out = (from, envelope); sent = true } ∷ []) none)

  sent_fresh : (packets : List Packet) (old new : S) (place place' : P) (window window' : Contents Held) (sends : SendsFresh call terms old place window packets place' window' new)
      → HandedTo (discarded_fresh call terms packets old new place place' window window' sends) old place window packets place' window' new
  sent_fresh [] old new place place' window window' (same, inl full) =
      none_to [] old new place place' window window' same (record { outcomes = []; discards = refl; none_sent = refl; fit = tt; asks = still_there old new place place' full.1 full.2 })
  sent_fresh [] old new place place' window window' (same, inr none) = none_to none.1.discarded old new place place' window window' same (looked_in_vain old new place place' none.1)
  sent_fresh (packet ∷ packets) old new place place' window window' sends =
      let first = sends.3 in
      let found = looked_and_found first.envelope old sends.2 place sends.0 first.found in
      let rest = sent_fresh packets sends.2 new sends.0 place' sends.1 window' sends.4 in
      let these = found.earlier ++ record { hand_out = (found.from, first.envelope); sent = true } ∷ [] in
      let sent = sent_last found.from first.envelope found.earlier rest.outcomes found.none_sent in
      record {
        outcomes = these ++ rest.outcomes;
        asks = asks_on these rest.outcomes old sends.2 new place sends.0 place' found.asks rest.asks;
        fit = all_of_both (IsSentIfFit terms) these rest.outcomes found.fit rest.fit;
        sends =
            subst (λ (l : List (P × Held)). Sends terms.at window (packet ∷ packets) (map (λ (h : P × Held). under terms.subscription h.1) l) window') (sym sent)
            (record {
              calls = Put (under terms.subscription first.envelope) (Ok first.identifier) ∷ rest.sends.calls;
              made = (tt, (sends.1, (first.room, first.free, first.put), rest.sends.made));
              within = (tt, rest.sends.within);
              publishes =
                  ap (λ p. publishes_in (p ∷ packets)) first.sent ∙ ap (λ ps. job terms.at false first.envelope.message terms.subscription first.identifier ∷ ps) rest.sends.publishes;
              fresh_are = ap (λ items. under terms.subscription first.envelope ∷ items) rest.sends.fresh_are;
              none_acked = rest.sends.none_acked;
            });
        discards =
            discards_of_both these rest.outcomes
            ∙ (λ i. (discards_of_both found.earlier (record { hand_out = (found.from, first.envelope); sent = true } ∷ []) ∙ append-nil (discards_of found.earlier) ∙ found.discards) i ++ rest.discards i)
            ∙ sym (map-append (λ (envelope : Held). (envelope, Discarded)) first.found.discarded (discarded_fresh call terms packets sends.2 new sends.0 place' sends.1 window' sends.4));
        contents =
            ap (λ p. fresh_contents (p ∷ packets)) first.sent ∙ ap (λ (cs : List Content). content_of first.envelope.message ∷ cs) rest.contents ∙ ap contents_of (sym sent);
      }

  -- so it is to a session with this membership
  owned : (membership' : Membership P) (place place' : P) (of : P → ℕ) (hand_outs : List (P × Held)) → membership' ≡ Member place' → of place' ≡ of place
      → AllByRecursion (λ (h : P × Held). of h.0 ≡ of place) hand_outs → AllByRecursion (λ (h : P × Held). HasOneAs of membership' h.0) hand_outs
  owned membership' place place' of [] is stays from = tt
  owned membership' place place' of (hand_out ∷ hand_outs) is stays from = ((place', is, stays ∙ sym from.0), owned membership' place place' of hand_outs is stays from.1)

  to_member : (discarded : List Held) (old new : S) (place place' : P) (window window' : Contents Held) (packets : List Packet) (membership' : Membership P) → membership' ≡ Member place'
      → HandedTo discarded old place window packets place' window' new → Handed discarded old (place ∷ []) window packets membership' window' new
  to_member discarded old new place place' window window' packets membership' is to = record {
    outcomes = to.outcomes;
    calls = record {
      supply_calls = to.asks.calls.calls.supply_calls;
      made = to.asks.calls.calls.made;
      aside = to.asks.calls.calls.aside;
      match = to.asks.calls.calls.match;
      offers = to.asks.calls.calls.offers;
      settles = to.asks.calls.calls.settles;
      hands = to.asks.calls.calls.hands;
      places = subst (λ places. KeepsPlaces (place ∷ []) to.asks.calls.calls.supply_calls places) (sym (ap place_in is)) to.asks.calls.calls.places;
    };
    to_one = inr (place, place', refl, is, to.asks.calls.in_turn, to.asks.calls.only);
    sends = to.sends;
    own = λ of keeps. owned membership' place place' of (hand_outs_of to.outcomes) is (to.asks.stays of keeps) (to.asks.from of keeps);
    fit = to.fit;
    discards = to.discards;
    contents = to.contents;
  }

  left_with : (old new : S) (place : P) (window : Contents Held) (membership : Membership P) → LeavesWith call old place window membership new → Aside call [] [] (place ∷ []) (place_in membership) old new
  left_with old new place window membership (inl gone) = asides.becomes call (ap place_in gone.1) (asides.one call old new _ gone.2 tt refl refl refl refl)
  left_with old new place window membership (inr stays) = asides.still call old new (ap place_in stays.1) stays.2

  handed_fresh : (membership : Membership P) (old new : S) (window : Contents Held) (packets : List Packet) (membership' : Membership P) (window' : Contents Held)
      (hands : HandsFresh call terms old membership window packets membership' window' new)
      → Handed (discarded_in call terms membership old new window packets membership' window' hands) old (place_in membership) window packets membership' window' new
  handed_fresh NotMember old new window packets membership' window' hands = hands_none old new window packets membership' window' hands.0 hands.2 (asides.still call old new (ap place_in hands.1) hands.3)
  handed_fresh (Member place) old new window packets membership' window' hands =
      to_member _ old new place hands.0 window window' packets membership' hands.1 (sent_fresh packets old new place hands.0 window window' hands.2)
  handed_fresh (Leaving place) old new window packets membership' window' hands =
      hands_none old new window packets membership' window' hands.0 hands.1 (left_with old new place window membership' hands.2)

  pub handed_out : (old new : S) (membership : Membership P) (window : Contents Held) (packets : List Packet) (membership' : Membership P) (window' : Contents Held)
      (hands : HandsOut call terms old membership window packets membership' window' new)
      → Handed (discarded_in call terms membership old new hands.between hands.fresh membership' window' hands.sent_fresh) old (place_in membership) window packets membership' window' new
  handed_out old new membership window packets membership' window' hands =
      let fresh = handed_fresh membership old new hands.between hands.fresh membership' window' hands.sent_fresh in
      subst (λ sent. Handed (discarded_in call terms membership old new hands.between hands.fresh membership' window' hands.sent_fresh) old (place_in membership) window sent membership' window' new)
      (sym hands.both)
      (record {
        outcomes = fresh.outcomes;
        calls = fresh.calls;
        to_one = fresh.to_one;
        sends = again_before terms.at hands.again hands.fresh _ window hands.between window' hands.sent_again fresh.sends;
        own = fresh.own;
        fit = fresh.fit;
        discards = fresh.discards;
        contents =
            filter_map-append fresh_content hands.again hands.fresh
            ∙ (λ i. none_fresh_again terms.at hands.again window hands.between hands.sent_again i ++ fresh.contents i);
      })
