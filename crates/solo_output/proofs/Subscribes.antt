-- A SUBSCRIBE and an UNSUBSCRIBE on one thread are those in the model.
use Rattle.std.proofs.Common.{◌≡◌, ◌≢◌, ℕ, ◌<◌, nat_lt, min, bytes_eq, Bool, true, false, cond, List, [], ◌∷◌, ◌++◌, length, slice_get, Option, Some, None, Result, Ok, Err, refl, sym, ap, ◌∙◌, subst, inl, inr, arith, eq-eqb, ne_eqb}
use Rattle.std.specs.List.{position, position_or_len}
use Rattle.std.proofs.lemmas.Bool.{ltb-true, lt-ltb, le-ltb}
use Rattle.std.proofs.lemmas.List.{map-append, length_push}
use Rattle.std.proofs.lemmas.Option.{cond_some}
use Rattle.mqtt_packet.specs.declared.packet.Subscription.{Subscription}
use Rattle.mqtt_topic.specs.declared.error.TopicError.{TopicError}
use Rattle.mqtt_topic.specs.Names.{Share, share_of}
use Rattle.mqtt_topic.specs.Routes.{most_routes, slot_of}
use Rattle.group_jobs.specs.Stamps.{Held}
use Rattle.session_desk.specs.declared.session.Session.{Session}
use Rattle.session_desk.specs.declared.session.Membership.{Membership}
use Rattle.session_desk.specs.declared.session.Membership.TheVariants.{NotMember, Member, Leaving}
use Rattle.session_desk.specs.Rows.{Rows}
use Rattle.users.specs.Rights.{all_rights}
use Rattle.users.proofs.Allowed.{every_share_may_be_worked_for}
use Rattle.conn_rules.specs.declared.subscribing.EntryAnswer.{EntryAnswer}
use Rattle.conn_rules.specs.declared.subscribing.EntryAnswer.TheVariants as answers
use Rattle.conn_rules.specs.declared.terms.Terms.{Terms}
use Rattle.conn_rules.specs.Subscribing.{entry_answer}
use Rattle.conn_supply.specs.declared.supply.BindRefusal.{BindRefusal}
use Rattle.conn_supply.specs.declared.supply.BindRefusal.TheVariants as refusal
use Rattle.conn_supply.specs.Memberships.{with_membership as having}
use Rattle.conn_supply.specs.Subscribing.{IsLent, EntersAs, StaysAs, Joins, AnswersEntry, AnswersEntries, LeavesFrom, LeavesBy, LeavesByAll, JoinsIf}
use Rattle.local_broker.specs.Places.{GroupPlace}
use Rattle.local_broker.specs.Broker.{Broker}
use Rattle.local_broker.specs.Calls.{Calls}
use Rattle.local_group.specs.Groups.{Group}
use Rattle.solo_output.specs.Groups.{SoloState, Bound, handed_in, shares_of, bound, open_identifiers, with_membership, with_share}
use Rattle.solo_output.specs.Subscribing.{Coded, AllCoded, coded, enter, is_slot, stay, join_as, entry_reply, join_all, leave_if, leave_as, leave, leave_all}
use Rattle.solo_output.proofs.Groups.{ShowsGroup}
use Rattle.solo_output.proofs.Brokers.{ShowsBroker, entries_at, entries_none, accepted_bound, length-shares}
use Rattle.solo_output.proofs.Hands.{first_place}
use Rattle.solo_output.proofs.Desks.{ShowsDesk, lends, lends_some}
use Rattle.solo_output.proofs.Sessions.{slot_at, placed, Idles, IsLentAs, ShowsSession, broker_as, window_as, broker_moved}

-- an entry was answered: the code, and the model after it
pub record Codes (one : Coded) (solo : SoloState) (session : Session Held GroupPlace) (code : ℕ) (membership : Membership GroupPlace) (new : Broker) : Type 0 where
  pub code_is : code ≡ one.code
  pub shows : ShowsSession one.solo (having session membership) new
  pub terms : one.solo.terms ≡ solo.terms
  pub phase : one.solo.phase ≡ solo.phase

-- a slot that was found is there
pub position_below : {A : Type 0} (p : A → Bool) (xs : List A) (at : ℕ) → position p xs ≡ Some at → at < length xs
position_below p xs at found =
    let parts = cond_some (nat_lt (position_or_len p xs) (length xs)) (position_or_len p xs) at found in
    let less = ltb-true (position_or_len p xs) (length xs) parts.0 in
    omega (arith, less, parts.1)

module _ (solo : SoloState) (session : Session Held GroupPlace) (old : Broker) (shows : ShowsSession solo session old) where
  -- nothing changes
  pub refuses : (code code' : ℕ) (membership : Membership GroupPlace) (new : Broker) → code ≡ code' → membership ≡ session.membership → new ≡ old → Codes (coded code' solo) solo session code membership new
  refuses code code' membership new is same still =
      record {
        code_is = is;
        shows = subst (λ (m : Membership GroupPlace). ShowsSession solo (having session m) new) (sym same) (subst (ShowsSession solo session) (sym still) shows);
        terms = refl;
        phase = refl;
      }

  -- a member of the same group from now on, or one that leaves it
  as_one : (membership : Membership ℕ) (code code' : ℕ) (membership' : Membership GroupPlace) (new : Broker) → code ≡ code' → membership' ≡ placed membership → new ≡ old
      → ((slot : ℕ) → entries_at membership slot session.window.owed ≡ entries_at solo.membership slot session.window.owed) → ShowsDesk membership old.desk → Idles membership session.window.owed
      → Codes (coded code' (with_membership membership solo)) solo session code membership' new
  as_one membership code code' membership' new is same still entries desk idles =
      record {
        code_is = is;
        shows =
            subst (λ (m : Membership GroupPlace). ShowsSession (with_membership membership solo) (having session m) new) (sym same)
            (subst (ShowsSession (with_membership membership solo) (having session (placed membership))) (sym still)
            (record {
              broker = broker_as membership solo session.window.owed old entries shows.broker;
              desk = desk;
              window = window_as membership solo session.window shows.window;
              member = refl;
              idles = idles;
              subscribed = shows.subscribed;
              expiry = shows.expiry;
              lent = shows.lent;
            }));
        terms = refl;
        phase = refl;
      }

  -- ---- whoever is no member
  module _ (idle : solo.membership ≡ NotMember) where
    empty : session.window.owed ≡ []
    empty = subst (λ (m : Membership ℕ). Idles m session.window.owed) idle shows.idles

    free_desk : ShowsDesk NotMember old.desk
    free_desk = subst (λ (m : Membership ℕ). ShowsDesk m old.desk) idle shows.desk

    no_entries : (membership : Membership ℕ) (slot : ℕ) → entries_at membership slot session.window.owed ≡ []
    no_entries membership slot = ap (entries_at membership slot) empty ∙ entries_none membership slot

    -- a place is lent in a group that is there
    lent_in : (slot : ℕ) (code : ℕ) (membership : Membership GroupPlace) (routed : SoloState) (mid new : Broker) → routed.terms ≡ solo.terms → routed.phase ≡ solo.phase → routed.handed_out ≡ solo.handed_out → routed.subscription ≡ solo.subscription
        → slot < 8 → ShowsBroker routed session.window.owed mid → routed.membership ≡ NotMember → mid.desk ≡ old.desk → (lent : Option GroupPlace) → IsLent Calls slot_at mid slot lent code membership new
        → Codes (coded 1 (with_membership (Member slot) routed)) solo session code membership new
    lent_in slot code membership routed mid new terms phase handed subscription small broker none desk None does = absurd (lends_some slot mid new small (subst (ShowsDesk NotMember) (sym desk) free_desk) does.0)
    lent_in slot code membership routed mid new terms phase handed subscription small broker none desk (Some place) does =
        let got = lends slot mid new place small (subst (ShowsDesk NotMember) (sym desk) free_desk) does.0 in
        let is : membership ≡ Member (first_place slot) = does.2 ∙ ap Member got.0 in
        let rows : new.desk.rows ≡ old.desk.rows = got.2.rows ∙ ap (λ d. d.rows) desk in
        record {
          code_is = does.1;
          shows =
              subst (λ (m : Membership GroupPlace). ShowsSession (with_membership (Member slot) routed) (having session m) new) (sym is)
              (record {
                broker =
                    broker_moved (with_membership (Member slot) routed) session.window.owed mid new got.2.routes got.2.groups
                    (broker_as (Member slot) routed session.window.owed mid (λ at. no_entries (Member slot) at ∙ sym (ap (λ (m : Membership ℕ). entries_at m at session.window.owed) none)) broker);
                desk = got.1;
                window = record {
                  none_waits = shows.window.none_waits;
                  quota_is = shows.window.quota_is ∙ ap (λ (t : Terms). Some (min t.receive_maximum 256)) (sym terms);
                  opens = ap open_identifiers handed ∙ shows.window.opens;
                  not_ending = shows.window.not_ending;
                };
                member = refl;
                idles = tt;
                subscribed = shows.subscribed ∙ sym subscription;
                expiry = shows.expiry ∙ ap (λ (t : Terms). t.session_expiry_interval) (sym terms);
                lent = subst (λ (rs : Rows Held GroupPlace). IsLentAs rs session.identity) (sym rows) shows.lent;
              });
          terms = terms;
          phase = phase;
        }

    same_count : length old.routes ≡ length solo.groups
    same_count = ap length shows.broker.routes ∙ length-shares solo.groups

    -- the share is bound already
    enters_bound : (share : Share) (slot : ℕ) (code : ℕ) (membership : Membership GroupPlace) (mid new : Broker) (lent : Option GroupPlace) → slot_of share.text old.routes ≡ Some slot → mid.routes ≡ old.routes → mid.desk ≡ old.desk → mid.groups ≡ old.groups
        → IsLent Calls slot_at mid slot lent code membership new → Codes (enter (slot_of share.text (shares_of solo.groups)) share solo) solo session code membership new
    enters_bound share slot code membership mid new lent found routes desk groups does =
        let here : slot_of share.text (shares_of solo.groups) ≡ Some slot = ap (slot_of share.text) (sym shows.broker.routes) ∙ found in
        let within : slot < length old.routes = position_below (λ other. bytes_eq other.text share.text) old.routes slot found in
        subst (λ (f : Option ℕ). Codes (enter f share solo) solo session code membership new) (sym here)
        (lent_in slot code membership solo mid new refl refl refl refl (omega (arith, within, same_count, shows.broker.few)) (broker_moved solo session.window.owed old mid routes groups shows.broker) idle desk lent does)

    -- it is bound to the next slot
    enters_next : (share : Share) (slot : ℕ) (code : ℕ) (membership : Membership GroupPlace) (mid new : Broker) (lent : Option GroupPlace) → slot_of share.text old.routes ≡ None → slot ≡ length old.routes → length old.routes < most_routes
        → mid.routes ≡ old.routes ++ share ∷ [] → mid.desk ≡ old.desk → mid.groups ≡ old.groups
        → IsLent Calls slot_at mid slot lent code membership new → Codes (enter (slot_of share.text (shares_of solo.groups)) share solo) solo session code membership new
    enters_next share slot code membership mid new lent none at room routes desk groups does =
        let here : slot_of share.text (shares_of solo.groups) ≡ None = ap (slot_of share.text) (sym shows.broker.routes) ∙ none in
        let few : length solo.groups < most_routes = omega (arith, room, same_count) in
        let more = length_push solo.groups (bound share) in
        let small : length solo.groups < 8 = few in
        let broker : ShowsBroker (with_share share solo) session.window.owed mid = record {
          routes = routes ∙ ap (λ (l : List Share). l ++ share ∷ []) shows.broker.routes ∙ sym (map-append (λ (g : Bound). g.share) solo.groups (bound share ∷ []));
          few = omega (arith, more, small);
          eight = ap length groups ∙ shows.broker.eight;
          groups = λ other group there.
              subst (λ l. ShowsGroup solo.capacity other l (handed_in other solo.handed_out) (entries_at solo.membership other session.window.owed) group)
              (sym (accepted_bound other share solo.groups)) (shows.broker.groups other group (ap (λ (l : List Group). slice_get l other) (sym groups) ∙ there));
        } in
        let its : IsLent Calls slot_at mid (length solo.groups) lent code membership new = subst (λ (n : ℕ). IsLent Calls slot_at mid n lent code membership new) (at ∙ same_count) does in
        subst (λ (f : Option ℕ). Codes (enter f share solo) solo session code membership new) (sym here)
        (subst (λ (b : Bool). Codes (cond b (coded 1 (with_membership (Member (length solo.groups)) (with_share share solo))) (coded 0x97 solo)) solo session code membership new)
        (sym (lt-ltb (length solo.groups) most_routes few))
        (lent_in (length solo.groups) code membership (with_share share solo) mid new refl refl refl refl small broker idle desk lent its))

    -- there is no slot for it
    enters_none : (share : Share) (code : ℕ) (membership : Membership GroupPlace) (new : Broker) → slot_of share.text old.routes ≡ None → length old.routes ≡ most_routes → code ≡ 0x97 → membership ≡ NotMember → new ≡ old
        → Codes (enter (slot_of share.text (shares_of solo.groups)) share solo) solo session code membership new
    enters_none share code membership new none full is same still =
        let here : slot_of share.text (shares_of solo.groups) ≡ None = ap (slot_of share.text) (sym shows.broker.routes) ∙ none in
        subst (λ (f : Option ℕ). Codes (enter f share solo) solo session code membership new) (sym here)
        (subst (λ (b : Bool). Codes (cond b (coded 1 (with_membership (Member (length solo.groups)) (with_share share solo))) (coded 0x97 solo)) solo session code membership new)
        (sym (le-ltb (length solo.groups) most_routes (omega (arith, full, same_count))))
        (refuses code 0x97 membership new is (same ∙ sym (shows.member ∙ ap placed idle)) still))

    enters : (share : Share) (bound_to : Result ℕ BindRefusal) (code : ℕ) (membership : Membership GroupPlace) (new : Broker) → EntersAs Calls slot_at old share bound_to code membership new
        → Codes (enter (slot_of share.text (shares_of solo.groups)) share solo) solo session code membership new
    enters share (Ok slot) code membership new (mid, lent, (inl was, asks), does) = enters_bound share slot code membership mid new lent was.0 was.1 asks.desk asks.groups does
    enters share (Ok slot) code membership new (mid, lent, (inr is, asks), does) = enters_next share slot code membership mid new lent is.0 is.1 is.2 is.3 asks.desk asks.groups does
    enters share (Err refusal.NoSlot) code membership new ((answer, asks), is, same) =
        enters_none share code membership new answer.0 answer.2 is same (λ i. record { desk = asks.desk i; routes = answer.1 i; groups = asks.groups i })
    enters share (Err refusal.Memory) code membership new does = absurd does
    enters share (Err refusal.NotDeclared) code membership new does = absurd does.0.0

  -- ---- whoever has a place
  module _ (slot : ℕ) (leaving : Membership ℕ) (is : solo.membership ≡ leaving) (desk : ShowsDesk (Member slot) old.desk) (entries : (at : ℕ) → entries_at (Member slot) at session.window.owed ≡ entries_at leaving at session.window.owed) where
    not_slot : (found : Option ℕ) → found ≢ Some slot → is_slot slot found ≡ false
    not_slot None differs = refl
    not_slot (Some other) differs = ne_eqb other slot (λ e. differs (ap (λ (n : ℕ). Some n) e))

    stays : (share : Share) (found : Option ℕ) (code : ℕ) (membership : Membership GroupPlace) (new : Broker) → found ≡ slot_of share.text old.routes → new ≡ old → StaysAs Calls slot_at (first_place slot) found session.membership code membership
        → Codes (stay slot (slot_of share.text (shares_of solo.groups)) solo) solo session code membership new
    stays share found code membership new answer still (inl does) =
        let here : is_slot slot (slot_of share.text (shares_of solo.groups)) ≡ true =
        ap (is_slot slot) (ap (slot_of share.text) (sym shows.broker.routes) ∙ sym answer ∙ does.0) ∙ eq-eqb slot slot refl in
        subst (λ (b : Bool). Codes (cond b (coded 1 (with_membership (Member slot) solo)) (coded 0x97 solo)) solo session code membership new) (sym here)
        (as_one (Member slot) code 1 membership new does.1 does.2 still (λ at. entries at ∙ sym (ap (λ (m : Membership ℕ). entries_at m at session.window.owed) is)) desk tt)
    stays share found code membership new answer still (inr does) =
        let here : is_slot slot (slot_of share.text (shares_of solo.groups)) ≡ false =
        not_slot (slot_of share.text (shares_of solo.groups)) (λ e. does.0 (answer ∙ ap (slot_of share.text) shows.broker.routes ∙ e)) in
        subst (λ (b : Bool). Codes (cond b (coded 1 (with_membership (Member slot) solo)) (coded 0x97 solo)) solo session code membership new) (sym here)
        (refuses code 0x97 membership new does.1 does.2 still)

    leaves : (share : Share) (found : Option ℕ) (code : ℕ) (membership : Membership GroupPlace) (new : Broker) → session.membership ≡ Member (first_place slot) → found ≡ slot_of share.text old.routes → new ≡ old
        → LeavesFrom Calls slot_at (first_place slot) found code membership → Codes (leave_if slot (slot_of share.text (shares_of solo.groups)) solo) solo session code membership new
    leaves share found code membership new member answer still (inl does) =
        let here : is_slot slot (slot_of share.text (shares_of solo.groups)) ≡ true =
        ap (is_slot slot) (ap (slot_of share.text) (sym shows.broker.routes) ∙ sym answer ∙ does.0) ∙ eq-eqb slot slot refl in
        subst (λ (b : Bool). Codes (cond b (coded 0 (with_membership (Leaving slot) solo)) (coded 0x11 solo)) solo session code membership new) (sym here)
        (as_one (Leaving slot) code 0 membership new does.1 does.2 still (λ at. entries at ∙ sym (ap (λ (m : Membership ℕ). entries_at m at session.window.owed) is)) (record { not_kicked = desk.not_kicked; places = desk.places }) tt)
    leaves share found code membership new member answer still (inr does) =
        let here : is_slot slot (slot_of share.text (shares_of solo.groups)) ≡ false =
        not_slot (slot_of share.text (shares_of solo.groups)) (λ e. does.0 (answer ∙ ap (slot_of share.text) shows.broker.routes ∙ e)) in
        subst (λ (b : Bool). Codes (cond b (coded 0 (with_membership (Leaving slot) solo)) (coded 0x11 solo)) solo session code membership new) (sym here)
        (refuses code 0x11 membership new does.1 (does.2 ∙ sym member) still)

  desk_as : (membership : Membership ℕ) → solo.membership ≡ membership → ShowsDesk membership old.desk
  desk_as membership is = subst (λ (m : Membership ℕ). ShowsDesk m old.desk) is shows.desk

  member_is : (membership : Membership ℕ) → solo.membership ≡ membership → session.membership ≡ placed membership
  member_is membership is = shows.member ∙ ap placed is

  joins : (membership : Membership ℕ) → solo.membership ≡ membership → (share : Share) (code : ℕ) (membership' : Membership GroupPlace) (new : Broker) → Joins Calls slot_at old (placed membership) share code membership' new
      → Codes (join_as membership (slot_of share.text (shares_of solo.groups)) share solo) solo session code membership' new
  joins NotMember is share code membership' new does = enters is share does.0 code membership' new does.1
  joins (Member slot) is share code membership' new does =
      stays slot (Member slot) is (desk_as (Member slot) is) (λ at. refl) share does.0 code membership' new does.1.0 does.1.1
      (subst (λ (m : Membership GroupPlace). StaysAs Calls slot_at (first_place slot) does.0 m code membership') (sym (member_is (Member slot) is)) does.2)
  joins (Leaving slot) is share code membership' new does =
      let desk = desk_as (Leaving slot) is in
      stays slot (Leaving slot) is (record { not_kicked = desk.not_kicked; places = desk.places }) (λ at. refl) share does.0 code membership' new does.1.0 does.1.1
      (subst (λ (m : Membership GroupPlace). StaysAs Calls slot_at (first_place slot) does.0 m code membership') (sym (member_is (Leaving slot) is)) does.2)

  answers_entry : (answer : EntryAnswer) (code : ℕ) (membership : Membership GroupPlace) (new : Broker) → AnswersEntry Calls slot_at all_rights old session.membership answer code membership new
      → Codes (entry_reply answer solo) solo session code membership new
  answers_entry (answers.Refuse refused) code membership new does = refuses code refused membership new does.0 does.1 does.2
  answers_entry (answers.Join share) code membership new does =
      let joined : Joins Calls slot_at old session.membership share code membership new =
      subst (λ (b : Bool). JoinsIf Calls slot_at b old session.membership share code membership new) (every_share_may_be_worked_for share.text) does in
      joins solo.membership refl share code membership new (subst (λ (m : Membership GroupPlace). Joins Calls slot_at old m share code membership new) shows.member joined)

  leaves_by : (membership : Membership ℕ) → solo.membership ≡ membership → (parsed : Result Share TopicError) (code : ℕ) (membership' : Membership GroupPlace) (new : Broker) → LeavesBy Calls slot_at old (placed membership) parsed code membership' new
      → Codes (leave_as membership parsed solo) solo session code membership' new
  leaves_by (Member slot) is (Ok share) code membership' new does =
      leaves slot (Member slot) is (desk_as (Member slot) is) (λ at. refl) share does.0 code membership' new (member_is (Member slot) is) does.1.0 does.1.1 does.2
  leaves_by (Member slot) is (Err error) code membership' new does = refuses code 0x11 membership' new does.0 (does.1 ∙ sym (member_is (Member slot) is)) does.2
  leaves_by NotMember is parsed code membership' new does = refuses code 0x11 membership' new does.0 (does.1 ∙ sym (member_is NotMember is)) does.2
  leaves_by (Leaving slot) is parsed code membership' new does = refuses code 0x11 membership' new does.0 (does.1 ∙ sym (member_is (Leaving slot) is)) does.2

-- all entries were answered
pub record CodesAll (all : AllCoded) (solo : SoloState) (session : Session Held GroupPlace) (codes : List ℕ) (membership : Membership GroupPlace) (new : Broker) : Type 0 where
  pub codes_are : codes ≡ all.codes
  pub shows : ShowsSession all.solo (having session membership) new
  pub terms : all.solo.terms ≡ solo.terms
  pub phase : all.solo.phase ≡ solo.phase

no_codes : (solo : SoloState) (session : Session Held GroupPlace) (old new : Broker) (codes : List ℕ) (membership : Membership GroupPlace) → ShowsSession solo session old → codes ≡ [] → membership ≡ session.membership → new ≡ old
    → CodesAll (record { codes = []; solo = solo }) solo session codes membership new
no_codes solo session old new codes membership shows none same still =
    record {
      codes_are = none;
      shows = subst (λ (m : Membership GroupPlace). ShowsSession solo (having session m) new) (sym same) (subst (ShowsSession solo session) (sym still) shows);
      terms = refl;
      phase = refl;
    }

pub joins_all : (entries : List Subscription) (solo : SoloState) (session : Session Held GroupPlace) (old new : Broker) (codes : List ℕ) (membership : Membership GroupPlace) → ShowsSession solo session old
    → AnswersEntries Calls slot_at all_rights old session.membership entries codes membership new → CodesAll (join_all entries solo) solo session codes membership new
joins_all [] solo session old new codes membership shows does = no_codes solo session old new codes membership shows does.0 does.1 does.2
joins_all (entry ∷ entries) solo session old new codes membership shows (code, rest, between, mid, first, later, are) =
    let one = answers_entry solo session old shows (entry_answer entry) code between mid first in
    let others = joins_all entries (entry_reply (entry_answer entry) solo).solo (having session between) mid new rest membership one.shows later in
    record { codes_are = are ∙ (λ i. one.code_is i ∷ others.codes_are i); shows = others.shows; terms = others.terms ∙ one.terms; phase = others.phase ∙ one.phase }

pub leaves_all : (texts : List (List ℕ)) (solo : SoloState) (session : Session Held GroupPlace) (old new : Broker) (codes : List ℕ) (membership : Membership GroupPlace) → ShowsSession solo session old
    → LeavesByAll Calls slot_at old session.membership texts codes membership new → CodesAll (leave_all texts solo) solo session codes membership new
leaves_all [] solo session old new codes membership shows does = no_codes solo session old new codes membership shows does.0 does.1 does.2
leaves_all (text ∷ texts) solo session old new codes membership shows (code, rest, between, mid, first, later, are) =
    let one = leaves_by solo session old shows solo.membership refl (share_of text) code between mid
    (subst (λ (m : Membership GroupPlace). LeavesBy Calls slot_at old m (share_of text) code between mid) shows.member first) in
    let others = leaves_all texts (leave text solo).solo (having session between) mid new rest membership one.shows later in
    record { codes_are = are ∙ (λ i. one.code_is i ∷ others.codes_are i); shows = others.shows; terms = others.terms ∙ one.terms; phase = others.phase ∙ one.phase }
