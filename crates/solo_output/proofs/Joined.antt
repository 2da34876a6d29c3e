-- The entries of a SUBSCRIBE: who is a member after them.
use Rattle.std.proofs.Common.{◌≡◌, ◌≢◌, ◌⊎◌, ℕ, zero, suc, ◌+◌, ◌<◌, ◌≤◌, nat_lt, not, bytes_eq, Bool, true, false, cond, List, [], ◌∷◌, ◌++◌, map, length, slice_get, Option, Some, None, Result, Ok, Err, refl, sym, ap, ◌∙◌, subst, inl, inr, ⊎_elim, arith, eqb-true, eq-eqb}
use Rattle.std.specs.List.{position, position_or_len}
use Rattle.std.proofs.lemmas.Bool.{cond_both, ltb-true, ltb-false, lt-ltb}
use Rattle.std.proofs.lemmas.List.{append-nil, append_assoc, length-append, map-append}
use Rattle.std.proofs.lemmas.Option.{cond_some, same_Some}
use Rattle.std.proofs.lemmas.Slice.Eq.{bytes_eq-Decides}
use Rattle.mqtt_packet.specs.declared.packet.Subscription.{Subscription}
use Rattle.mqtt_topic.specs.declared.error.TopicError.{TopicError}
use Rattle.mqtt_topic.specs.declared.error.TopicError.TheVariants as error
use Rattle.mqtt_topic.specs.Names.{Share, share_of, filter_of}
use Rattle.mqtt_topic.specs.Routes.{most_routes, slot_of}
use Rattle.mqtt_topic.proofs.SpellingLaws.{spelled_is}
use Rattle.session_desk.specs.declared.session.Membership.{Membership}
use Rattle.session_desk.specs.declared.session.Membership.TheVariants.{NotMember, Member, Leaving}
use Rattle.conn_rules.specs.declared.subscribing.EntryAnswer.{EntryAnswer}
use Rattle.conn_rules.specs.declared.subscribing.EntryAnswer.TheVariants as entries
use Rattle.conn_rules.specs.Subscribing.{filter_code, refused_code, share_answer, entry_answer}
use Rattle.solo_output.specs.Groups.{SoloState, Bound, bound, shares_of, with_membership, with_share}
use Rattle.solo_output.specs.Subscribing.{Coded, AllCoded, coded, coded_first, enter, is_slot, stay, join_as, entry_reply, join_all}
use Rattle.solo_output.specs.Memberships.{HasCode}
use Rattle.solo_output.specs.Runs.{IsInGroup}
use Rattle.solo_output.proofs.Brokers.{length-shares}
use Rattle.solo_output.proofs.Moves.{MayJoin}

-- ---- a share keeps its slot where others are bound

here_or_later : (b : Bool) (at left : ℕ) → cond (not b) (1 + at) 0 < suc left → (b ≡ true) ⊎ ((b ≡ false) × (at < left))
here_or_later true at left less = inl refl
here_or_later false at left less = inr (refl, omega arith)

not_here : (b : Bool) (at left : ℕ) → suc left ≤ cond (not b) (1 + at) 0 → (b ≡ false) × (left ≤ at)
not_here true at left le = absurd (omega arith)
not_here false at left le = (refl, omega arith)

place_kept : {A : Type 0} (p : A → Bool) (xs later : List A) → position_or_len p xs < length xs → position_or_len p (xs ++ later) ≡ position_or_len p xs
place_kept p [] later less = absurd (omega arith)
place_kept p (x ∷ xs) later less =
    ⊎_elim
    (λ (is : p x ≡ true). rw is refl)
    (λ (behind : (p x ≡ false) × (position_or_len p xs < length xs)). rw (behind.0, place_kept p xs later behind.1) refl)
    (here_or_later (p x) (position_or_len p xs) (length xs) less)

place_pushed : {A : Type 0} (p : A → Bool) (xs : List A) (x : A) → length xs ≤ position_or_len p xs → p x ≡ true → position_or_len p (xs ++ x ∷ []) ≡ length xs
place_pushed p [] x none is = rw is refl
place_pushed p (first' ∷ xs) x none is =
    let behind = not_here (p first') (position_or_len p xs) (length xs) none in
    rw (behind.0, place_pushed p xs x behind.1 is) (omega arith)

is_found : {A : Type 0} (p : A → Bool) (xs : List A) (at : ℕ) → position_or_len p xs ≡ at → at < length xs → position p xs ≡ Some at
is_found p xs at is within =
    ap (λ (b : Bool). cond b (Some (position_or_len p xs)) None) (lt-ltb (position_or_len p xs) (length xs) (omega (arith, is, within)))
    ∙ ap (λ (n : ℕ). Some n) is

not_found : (b : Bool) (at : ℕ) → cond b (Some at) None ≡ None → b ≡ false
not_found true at e = absurd cc
not_found false at e = refl

slot_kept : (text : List ℕ) (shares later : List Share) (slot : ℕ) → slot_of text shares ≡ Some slot → slot_of text (shares ++ later) ≡ Some slot
slot_kept text shares later slot found =
    let p = λ (share : Share). bytes_eq share.text text in
    let parts = cond_some (nat_lt (position_or_len p shares) (length shares)) (position_or_len p shares) slot found in
    let less = ltb-true (position_or_len p shares) (length shares) parts.0 in
    is_found p (shares ++ later) slot (place_kept p shares later less ∙ parts.1) (omega (arith, parts.1, less, length-append shares later))

slot_pushed : (share : Share) (shares : List Share) → slot_of share.text shares ≡ None → slot_of share.text (shares ++ share ∷ []) ≡ Some (length shares)
slot_pushed share shares none =
    let p = λ (other : Share). bytes_eq other.text share.text in
    let past = ltb-false (position_or_len p shares) (length shares) (not_found (nat_lt (position_or_len p shares) (length shares)) (position_or_len p shares) none) in
    is_found p (shares ++ share ∷ []) (length shares) (place_pushed p shares share past ((bytes_eq-Decides share.text share.text).1 refl)) (omega (arith, length-append shares (share ∷ [])))

-- ---- memberships

pub is_in : (membership : Membership ℕ) (slot : ℕ) → membership ≡ Leaving slot → IsInGroup membership slot
is_in membership slot is = subst (λ (m : Membership ℕ). IsInGroup m slot) (sym is) refl

pub is_in_as : (membership : Membership ℕ) (slot : ℕ) → membership ≡ Member slot → IsInGroup membership slot
is_in_as membership slot is = subst (λ (m : Membership ℕ). IsInGroup m slot) (sym is) refl

pub one_slot : (membership : Membership ℕ) (own slot : ℕ) → MayJoin membership own → IsInGroup membership slot → own ≡ slot
one_slot NotMember own slot may in_ = absurd in_
one_slot (Member is) own slot may in_ = sym may ∙ in_
one_slot (Leaving is) own slot may in_ = sym may ∙ in_

own_slot : (membership : Membership ℕ) (own slot : ℕ) → MayJoin membership own → membership ≡ Member slot → own ≡ slot
own_slot membership own slot may is = one_slot membership own slot may (is_in_as membership slot is)

may_as : (membership other : Membership ℕ) (slot : ℕ) → membership ≡ other → MayJoin other slot → MayJoin membership slot
may_as membership other slot is may = subst (λ (m : Membership ℕ). MayJoin m slot) (sym is) may

pub found_slot : (slot : ℕ) (found : Option ℕ) → is_slot slot found ≡ true → found ≡ Some slot
found_slot slot None is = absurd cc
found_slot slot (Some other) is = ap (λ (n : ℕ). Some n) (eqb-true other slot is)

-- ---- what answers the entries of a SUBSCRIBE and of an UNSUBSCRIBE: shares may be bound, and nothing is handed out

pub record Follows (one two : SoloState) : Type 0 where
  pub phase : two.phase ≡ one.phase
  pub terms : two.terms ≡ one.terms
  pub subscription : two.subscription ≡ one.subscription
  pub handed : two.handed_out ≡ one.handed_out
  pub later : List Share
  pub grows : shares_of two.groups ≡ shares_of one.groups ++ later

follows_as : (membership : Membership ℕ) (solo : SoloState) → Follows solo (with_membership membership solo)
follows_as membership solo = record { phase = refl; terms = refl; subscription = refl; handed = refl; later = []; grows = sym (append-nil (shares_of solo.groups)) }

follows_both : (one two three : SoloState) → Follows one two → Follows two three → Follows one three
follows_both one two three first' next =
    record {
      phase = next.phase ∙ first'.phase;
      terms = next.terms ∙ first'.terms;
      subscription = next.subscription ∙ first'.subscription;
      handed = next.handed ∙ first'.handed;
      later = first'.later ++ next.later;
      grows = next.grows ∙ ap (λ (l : List Share). l ++ next.later) first'.grows ∙ append_assoc (shares_of one.groups) first'.later next.later;
    }

slot_still : (one two : SoloState) (text : List ℕ) (slot : ℕ) → Follows one two → slot_of text (shares_of one.groups) ≡ Some slot → slot_of text (shares_of two.groups) ≡ Some slot
slot_still one two text slot follows found = ap (slot_of text) follows.grows ∙ slot_kept text (shares_of one.groups) follows.later slot found

-- ---- an entry of a SUBSCRIBE

-- it is refused, or is that of a share
abbrev Fits : List ℕ → EntryAnswer → Type 0
Fits text (entries.Refuse code) = code ≢ 1
Fits text (entries.Join share) = share.text ≡ text

filter_code_fits : (parsed : Result (List ℕ) TopicError) → filter_code parsed ≢ 1
filter_code_fits (Ok filter) e = absurd (omega (arith, e))
filter_code_fits (Err refusal) e = absurd (omega (arith, e))

refused_fits : (refusal : TopicError) (text : List ℕ) → refused_code refusal text ≢ 1
refused_fits error.NotShared text e = filter_code_fits (filter_of text) e
refused_fits error.Empty text e = absurd (omega (arith, e))
refused_fits error.BadWildcard text e = absurd (omega (arith, e))
refused_fits error.BadShare text e = absurd (omega (arith, e))
refused_fits error.NoSlot text e = absurd (omega (arith, e))
refused_fits error.Memory text e = absurd (omega (arith, e))

share_fits : (served : Bool) (parsed : Result Share TopicError) (text : List ℕ) → share_of text ≡ parsed → Fits text (share_answer served parsed text)
share_fits true (Ok share) text is = ((spelled_is text share).0 is).whole
share_fits false (Ok share) text is = λ e. absurd (omega (arith, e))
share_fits true (Err refusal) text is = refused_fits refusal text
share_fits false (Err refusal) text is = refused_fits refusal text

answer_fits : (entry : Subscription) → Fits entry.filter (entry_answer entry)
answer_fits entry = share_fits _ (share_of entry.filter) entry.filter refl

-- the client is a member of its group
record Enters (text : List ℕ) (one two : SoloState) : Type 0 where
  slot : ℕ
  now : two.membership ≡ Member slot
  its : slot_of text (shares_of two.groups) ≡ Some slot
  may : MayJoin one.membership slot

-- the code is 01 and the client enters, or it is another and nothing happens
record EntryIs (text : List ℕ) (one : SoloState) (c : Coded) : Type 0 where
  follows : Follows one c.solo
  does : ((c.code ≡ 1) × Enters text one c.solo) ⊎ ((c.code ≢ 1) × (c.solo ≡ one))

refused : (text : List ℕ) (code : ℕ) (solo : SoloState) → code ≢ 1 → EntryIs text solo (coded code solo)
refused text code solo other = record { follows = follows_as solo.membership solo; does = inr (other, refl) }

refused_slot : ◌≢◌ {A = ℕ} 0x97 1
refused_slot e = absurd (omega (arith, e))

granted : (text : List ℕ) (slot : ℕ) (solo : SoloState) → slot_of text (shares_of solo.groups) ≡ Some slot → MayJoin solo.membership slot → EntryIs text solo (coded 1 (with_membership (Member slot) solo))
granted text slot solo found may =
    record { follows = follows_as (Member slot) solo; does = inl (refl, record { slot = slot; now = refl; its = found; may = may }) }

entered : (found : Option ℕ) (share : Share) (solo : SoloState) → slot_of share.text (shares_of solo.groups) ≡ found → solo.membership ≡ NotMember → EntryIs share.text solo (enter found share solo)
entered (Some slot) share solo found is = granted share.text slot solo found (may_as solo.membership NotMember slot is tt)
entered None share solo found is =
    let slot = length solo.groups in
    let behind = with_membership (Member slot) (with_share share solo) in
    let grows : shares_of (solo.groups ++ bound share ∷ []) ≡ shares_of solo.groups ++ share ∷ [] = map-append (λ (g : Bound). g.share) solo.groups (bound share ∷ []) in
    cond_both (nat_lt slot most_routes) (coded 1 behind) (coded 0x97 solo) (EntryIs share.text solo)
    (λ room.
    record {
      follows = record { phase = refl; terms = refl; subscription = refl; handed = refl; later = share ∷ []; grows = grows };
      does = inl (
        refl,
        record {
          slot = slot;
          now = refl;
          its = ap (slot_of share.text) grows ∙ slot_pushed share (shares_of solo.groups) found ∙ ap (λ (n : ℕ). Some n) (length-shares solo.groups);
          may = may_as solo.membership NotMember slot is tt;
        },
      );
    })
    (λ full. refused share.text 0x97 solo refused_slot)

stayed : (slot : ℕ) (share : Share) (solo : SoloState) → MayJoin solo.membership slot → EntryIs share.text solo (stay slot (slot_of share.text (shares_of solo.groups)) solo)
stayed slot share solo may =
    let found = slot_of share.text (shares_of solo.groups) in
    cond_both (is_slot slot found) (coded 1 (with_membership (Member slot) solo)) (coded 0x97 solo) (EntryIs share.text solo)
    (λ its. granted share.text slot solo (found_slot slot found its) may)
    (λ other. refused share.text 0x97 solo refused_slot)

joined_as : (membership : Membership ℕ) (share : Share) (solo : SoloState) → solo.membership ≡ membership → EntryIs share.text solo (join_as membership (slot_of share.text (shares_of solo.groups)) share solo)
joined_as NotMember share solo is = entered (slot_of share.text (shares_of solo.groups)) share solo refl is
joined_as (Member slot) share solo is = stayed slot share solo (may_as solo.membership (Member slot) slot is refl)
joined_as (Leaving slot) share solo is = stayed slot share solo (may_as solo.membership (Leaving slot) slot is refl)

entry_is : (text : List ℕ) (answer : EntryAnswer) (solo : SoloState) → Fits text answer → EntryIs text solo (entry_reply answer solo)
entry_is text (entries.Refuse code) solo other = refused text code solo other
entry_is text (entries.Join share) solo its = subst (λ (t : List ℕ). EntryIs t solo (entry_reply (entries.Join share) solo)) its (joined_as solo.membership share solo refl)

module _ (text : List ℕ) (one : SoloState) (c : Coded) (is : EntryIs text one c) where
  entry_joins : c.code ≡ 1 → Enters text one c.solo
  entry_joins told =
      ⊎_elim
      (λ (yes' : (c.code ≡ 1) × Enters text one c.solo). yes'.1)
      (λ (no' : (c.code ≢ 1) × (c.solo ≡ one)). absurd (no'.0 told))
      is.does

  entry_joined : (slot : ℕ) → c.solo.membership ≡ Member slot → (one.membership ≡ Member slot) ⊎ ((c.code ≡ 1) × (slot_of text (shares_of c.solo.groups) ≡ Some slot))
  entry_joined slot now =
      ⊎_elim
      (λ (yes' : (c.code ≡ 1) × Enters text one c.solo). let same : Some yes'.1.slot ≡ Some slot = (let e : Member yes'.1.slot ≡ Member slot = sym yes'.1.now ∙ now in cc) in inr (yes'.0, yes'.1.its ∙ same))
      (λ (no' : (c.code ≢ 1) × (c.solo ≡ one)). inl (ap (λ (s : SoloState). s.membership) (sym no'.1) ∙ now))
      is.does

  entry_stays : (slot : ℕ) → one.membership ≡ Member slot → c.solo.membership ≡ Member slot
  entry_stays slot was =
      ⊎_elim
      (λ (yes' : (c.code ≡ 1) × Enters text one c.solo). yes'.1.now ∙ ap (λ (n : ℕ). Member n) (own_slot one.membership yes'.1.slot slot yes'.1.may was))
      (λ (no' : (c.code ≢ 1) × (c.solo ≡ one)). ap (λ (s : SoloState). s.membership) no'.1 ∙ was)
      is.does

  entry_stays_in : (slot : ℕ) → IsInGroup one.membership slot → IsInGroup c.solo.membership slot
  entry_stays_in slot was =
      ⊎_elim
      (λ (yes' : (c.code ≡ 1) × Enters text one c.solo).
      is_in_as c.solo.membership slot (yes'.1.now ∙ ap (λ (n : ℕ). Member n) (one_slot one.membership yes'.1.slot slot yes'.1.may was)))
      (λ (no' : (c.code ≢ 1) × (c.solo ≡ one)). subst (λ (s : SoloState). IsInGroup s.membership slot) (sym no'.1) was)
      is.does

  entry_leaving : (slot : ℕ) → c.solo.membership ≡ Leaving slot → one.membership ≡ Leaving slot
  entry_leaving slot now =
      ⊎_elim
      (λ (yes' : (c.code ≡ 1) × Enters text one c.solo). let e : Member yes'.1.slot ≡ Leaving slot = sym yes'.1.now ∙ now in absurd cc)
      (λ (no' : (c.code ≢ 1) × (c.solo ≡ one)). ap (λ (s : SoloState). s.membership) (sym no'.1) ∙ now)
      is.does

-- ---- all entries

pub record AllJoin (filters : List (List ℕ)) (one : SoloState) (all : AllCoded) : Type 0 where
  pub follows : Follows one all.solo
  pub joins : (place slot : ℕ) (filter : List ℕ) → slice_get filters place ≡ Some filter → slice_get all.codes place ≡ Some 1 → slot_of filter (shares_of all.solo.groups) ≡ Some slot → all.solo.membership ≡ Member slot
  pub joined : (slot : ℕ) → all.solo.membership ≡ Member slot → (one.membership ≡ Member slot) ⊎ HasCode filters all.codes 1 slot (shares_of all.solo.groups)
  pub stays : (slot : ℕ) → one.membership ≡ Member slot → all.solo.membership ≡ Member slot
  pub stays_in : (slot : ℕ) → IsInGroup one.membership slot → IsInGroup all.solo.membership slot
  pub leaving : (slot : ℕ) → all.solo.membership ≡ Leaving slot → one.membership ≡ Leaving slot
  pub granted : (place : ℕ) → slice_get all.codes place ≡ Some 1 → (slot : ℕ) × HasCode filters all.codes 1 slot (shares_of all.solo.groups)

abbrev pub filters_of : List Subscription → List (List ℕ)
filters_of subscriptions = map (λ entry. entry.filter) subscriptions

pub none_there : {A : Type 0} (place : ℕ) (x : A) → slice_get [] place ≡ Some x → ⊥
none_there place x e = absurd cc

pub one_more : (filter : List ℕ) (filters : List (List ℕ)) (code : ℕ) (codes : List ℕ) (its slot : ℕ) (shares : List Share) → HasCode filters codes its slot shares → HasCode (filter ∷ filters) (code ∷ codes) its slot shares
one_more filter filters code codes its slot shares has = record { place = suc has.place; filter = has.filter; asked = has.asked; coded = has.coded; its = has.its }

module _ (text : List ℕ) (filters : List (List ℕ)) (solo : SoloState) (one : Coded) (is : EntryIs text solo one) (rest : AllCoded) (later : AllJoin filters one.solo rest) where
  at_first : (slot : ℕ) → one.code ≡ 1 → slot_of text (shares_of one.solo.groups) ≡ Some slot → HasCode (text ∷ filters) (one.code ∷ rest.codes) 1 slot (shares_of rest.solo.groups)
  at_first slot told its = record { place = zero; filter = text; asked = refl; coded = ap (λ (n : ℕ). Some n) told; its = slot_still one.solo rest.solo text slot later.follows its }

  by_entry : (slot : ℕ) → (solo.membership ≡ Member slot) ⊎ ((one.code ≡ 1) × (slot_of text (shares_of one.solo.groups) ≡ Some slot))
      → (solo.membership ≡ Member slot) ⊎ HasCode (text ∷ filters) (one.code ∷ rest.codes) 1 slot (shares_of rest.solo.groups)
  by_entry slot (inl was) = inl was
  by_entry slot (inr (told, its)) = inr (at_first slot told its)

  joins_at : (place slot : ℕ) (filter : List ℕ) → slice_get (text ∷ filters) place ≡ Some filter → slice_get (one.code ∷ rest.codes) place ≡ Some 1 → slot_of filter (shares_of rest.solo.groups) ≡ Some slot
      → rest.solo.membership ≡ Member slot
  joins_at zero slot filter asked told its =
      let enters = entry_joins text solo one is (same_Some one.code 1 told) in
      let text_is = same_Some text filter asked in
      let still : slot_of text (shares_of rest.solo.groups) ≡ Some enters.slot = slot_still one.solo rest.solo text enters.slot later.follows enters.its in
      let same = same_Some enters.slot slot (sym still ∙ ap (λ (t : List ℕ). slot_of t (shares_of rest.solo.groups)) text_is ∙ its) in
      later.stays slot (enters.now ∙ ap (λ (n : ℕ). Member n) same)
  joins_at (suc place) slot filter asked told its = later.joins place slot filter asked told its

  granted_at : (place : ℕ) → slice_get (one.code ∷ rest.codes) place ≡ Some 1 → (slot : ℕ) × HasCode (text ∷ filters) (one.code ∷ rest.codes) 1 slot (shares_of rest.solo.groups)
  granted_at zero told =
      let is_one = same_Some one.code 1 told in
      let enters = entry_joins text solo one is is_one in
      (enters.slot, at_first enters.slot is_one enters.its)
  granted_at (suc place) told =
      let has = later.granted place told in
      (has.0, one_more text filters one.code rest.codes 1 has.0 (shares_of rest.solo.groups) has.1)

  first_joins : AllJoin (text ∷ filters) solo (coded_first one.code rest)
  first_joins =
      record {
        follows = follows_both solo one.solo rest.solo is.follows later.follows;
        joins = joins_at;
        joined = λ slot now.
            ⊎_elim
            (λ (was : one.solo.membership ≡ Member slot). by_entry slot (entry_joined text solo one is slot was))
            (λ (has : HasCode filters rest.codes 1 slot (shares_of rest.solo.groups)). inr (one_more text filters one.code rest.codes 1 slot (shares_of rest.solo.groups) has))
            (later.joined slot now);
        stays = λ slot was. later.stays slot (entry_stays text solo one is slot was);
        stays_in = λ slot was. later.stays_in slot (entry_stays_in text solo one is slot was);
        leaving = λ slot now. entry_leaving text solo one is slot (later.leaving slot now);
        granted = granted_at;
      }

pub all_join : (subscriptions : List Subscription) (solo : SoloState) → AllJoin (filters_of subscriptions) solo (join_all subscriptions solo)
all_join [] solo =
    record {
      follows = follows_as solo.membership solo;
      joins = λ place slot filter asked told its. absurd (none_there place filter asked);
      joined = λ slot now. inl now;
      stays = λ slot was. was;
      stays_in = λ slot was. was;
      leaving = λ slot now. now;
      granted = λ place told. absurd (none_there place 1 told);
    }
all_join (entry ∷ others) solo =
    let one = entry_reply (entry_answer entry) solo in
    first_joins entry.filter (filters_of others) solo one (entry_is entry.filter (entry_answer entry) solo (answer_fits entry))
    (join_all others one.solo) (all_join others one.solo)

-- ---- who is served

text_of : (entry : Subscription) (share : Share) → entry_answer entry ≡ entries.Join share → share.text ≡ entry.filter
text_of entry share served = subst (Fits entry.filter) served (answer_fits entry)

stays_told : (membership : Membership ℕ) (share : Share) (solo : SoloState) (slot : ℕ) → IsInGroup membership slot → slot_of share.text (shares_of solo.groups) ≡ Some slot
    → (join_as membership (slot_of share.text (shares_of solo.groups)) share solo).code ≡ 1
stays_told NotMember share solo slot in_ found = absurd in_
stays_told (Member own) share solo slot in_ found =
    ap (λ (f : Option ℕ). (stay own f solo).code) found ∙ ap (λ (b : Bool). (cond b (coded 1 (with_membership (Member own) solo)) (coded 0x97 solo)).code) (eq-eqb slot own (sym in_))
stays_told (Leaving own) share solo slot in_ found =
    ap (λ (f : Option ℕ). (stay own f solo).code) found ∙ ap (λ (b : Bool). (cond b (coded 1 (with_membership (Member own) solo)) (coded 0x97 solo)).code) (eq-eqb slot own (sym in_))

-- the share is bound, or can be
abbrev pub HasSlot : Share → SoloState → Type 0
HasSlot share solo = (slot_of share.text (shares_of solo.groups) ≢ None) ⊎ (length solo.groups < most_routes)

enters_told : (found : Option ℕ) (share : Share) (solo : SoloState) → (found ≢ None) ⊎ (length solo.groups < most_routes) → (enter found share solo).code ≡ 1
enters_told (Some slot) share solo has = refl
enters_told None share solo (inl some) = absurd (some refl)
enters_told None share solo (inr room) =
    let slot = length solo.groups in
    ap (λ (b : Bool). (cond b (coded 1 (with_membership (Member slot) (with_share share solo))) (coded 0x97 solo)).code) (lt-ltb slot most_routes room)

module _ (share : Share) where
  pub serves_own : (subscriptions : List Subscription) (solo : SoloState) (place slot : ℕ) (entry : Subscription) → slice_get subscriptions place ≡ Some entry → entry_answer entry ≡ entries.Join share
      → IsInGroup solo.membership slot → slot_of share.text (shares_of solo.groups) ≡ Some slot → let all = join_all subscriptions solo in HasCode (filters_of subscriptions) all.codes 1 slot (shares_of all.solo.groups)
  serves_own [] solo place slot entry asked served in_ found = absurd (none_there place entry asked)
  serves_own (first' ∷ others) solo zero slot entry asked served in_ found =
      let answer = entry_answer first' in
      let one = entry_reply answer solo in
      let same = same_Some first' entry asked in
      let told : one.code ≡ 1 =
      ap (λ (e : Subscription). (entry_reply (entry_answer e) solo).code) same ∙ ap (λ (a : EntryAnswer). (entry_reply a solo).code) served ∙ stays_told solo.membership share solo slot in_ found in
      let text_is : share.text ≡ first'.filter = text_of entry share served ∙ ap (λ (e : Subscription). e.filter) (sym same) in
      let is = entry_is first'.filter answer solo (answer_fits first') in
      at_first first'.filter (filters_of others) solo one is (join_all others one.solo) (all_join others one.solo) slot told
      (slot_still solo one.solo first'.filter slot is.follows (ap (λ (t : List ℕ). slot_of t (shares_of solo.groups)) (sym text_is) ∙ found))
  serves_own (first' ∷ others) solo (suc place) slot entry asked served in_ found =
      let answer = entry_answer first' in
      let one = entry_reply answer solo in
      let is = entry_is first'.filter answer solo (answer_fits first') in
      let rest = join_all others one.solo in
      one_more first'.filter (filters_of others) one.code rest.codes 1 slot (shares_of rest.solo.groups)
      (serves_own others one.solo place slot entry asked served
      (entry_stays_in first'.filter solo one is slot in_) (slot_still solo one.solo share.text slot is.follows found))

  pub serves_free : (subscriptions : List Subscription) (solo : SoloState) (place : ℕ) (entry : Subscription) → slice_get subscriptions place ≡ Some entry → entry_answer entry ≡ entries.Join share
      → solo.membership ≡ NotMember → HasSlot share solo → let all = join_all subscriptions solo in (slot : ℕ) × HasCode (filters_of subscriptions) all.codes 1 slot (shares_of all.solo.groups)
  serves_free [] solo place entry asked served none has = absurd (none_there place entry asked)
  serves_free (first' ∷ others) solo zero entry asked served none has =
      let answer = entry_answer first' in
      let one = entry_reply answer solo in
      let told : one.code ≡ 1 =
      ap (λ (e : Subscription). (entry_reply (entry_answer e) solo).code) (same_Some first' entry asked)
      ∙ ap (λ (a : EntryAnswer). (entry_reply a solo).code) served
      ∙ ap (λ (m : Membership ℕ). (join_as m (slot_of share.text (shares_of solo.groups)) share solo).code) none
      ∙ enters_told (slot_of share.text (shares_of solo.groups)) share solo has in
      let is = entry_is first'.filter answer solo (answer_fits first') in
      let enters = entry_joins first'.filter solo one is told in
      (enters.slot, at_first first'.filter (filters_of others) solo one is (join_all others one.solo) (all_join others one.solo) enters.slot told enters.its)
  serves_free (first' ∷ others) solo (suc place) entry asked served none has =
      let answer = entry_answer first' in
      let one = entry_reply answer solo in
      let is = entry_is first'.filter answer solo (answer_fits first') in
      let rest = join_all others one.solo in
      ⊎_elim
      (λ (enters : (one.code ≡ 1) × Enters first'.filter solo one.solo).
      (enters.1.slot, at_first first'.filter (filters_of others) solo one is rest (all_join others one.solo) enters.1.slot enters.0 enters.1.its))
      (λ (not_first : (one.code ≢ 1) × (one.solo ≡ solo)).
      let later =
      serves_free others one.solo place entry asked served (ap (λ (s : SoloState). s.membership) not_first.1 ∙ none)
      (subst (HasSlot share) (sym not_first.1) has) in
      (later.0, one_more first'.filter (filters_of others) one.code rest.codes 1 later.0 (shares_of rest.solo.groups) later.1))
      is.does
