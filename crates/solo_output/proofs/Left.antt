-- The Topic Filters of an UNSUBSCRIBE: who leaves after them.
use Rattle.std.proofs.Common.{◌≡◌, ◌≢◌, ◌⊎◌, ℕ, zero, suc, Bool, cond, List, [], ◌∷◌, slice_get, Option, Some, Result, Ok, Err, refl, sym, ap, ◌∙◌, subst, inl, inr, ⊎_elim, arith, eq-eqb}
use Rattle.std.proofs.lemmas.Bool.{cond_both}
use Rattle.std.proofs.lemmas.Option.{same_Some}
use Rattle.mqtt_topic.specs.declared.error.TopicError.{TopicError}
use Rattle.mqtt_topic.specs.Names.{Share, share_of}
use Rattle.mqtt_topic.specs.Routes.{slot_of}
use Rattle.mqtt_topic.proofs.SpellingLaws.{spelled_is}
use Rattle.session_desk.specs.declared.session.Membership.{Membership}
use Rattle.session_desk.specs.declared.session.Membership.TheVariants.{NotMember, Member, Leaving}
use Rattle.solo_output.specs.Groups.{SoloState, Bound, shares_of, with_membership}
use Rattle.solo_output.specs.Subscribing.{Coded, AllCoded, coded, coded_first, is_slot, leave_if, leave_as, leave, leave_all}
use Rattle.solo_output.specs.Memberships.{HasCode}
use Rattle.solo_output.proofs.Joined.{found_slot, none_there, one_more}

-- ---- an entry of an UNSUBSCRIBE

record Left (text : List ℕ) (one : SoloState) (c : Coded) : Type 0 where
  slot : ℕ
  told : c.code ≡ 0
  was : one.membership ≡ Member slot
  now : c.solo ≡ with_membership (Leaving slot) one
  its : slot_of text (shares_of one.groups) ≡ Some slot

-- the code is 00 and the member is leaving, or it is another and nothing happens
abbrev LeaveIs : List ℕ → SoloState → Coded → Type 0
LeaveIs text one c = Left text one c ⊎ ((c.code ≢ 0) × (c.solo ≡ one))

not_left : ◌≢◌ {A = ℕ} 0x11 0
not_left e = absurd (omega (arith, e))

leave_is_as : (text : List ℕ) (membership : Membership ℕ) (parsed : Result Share TopicError) (solo : SoloState) → solo.membership ≡ membership → share_of text ≡ parsed → LeaveIs text solo (leave_as membership parsed solo)
leave_is_as text (Member slot) (Ok share) solo is parsed =
    let found = slot_of share.text (shares_of solo.groups) in
    let whole : share.text ≡ text = ((spelled_is text share).0 parsed).whole in
    cond_both (is_slot slot found) (coded 0 (with_membership (Leaving slot) solo)) (coded 0x11 solo) (LeaveIs text solo)
    (λ its.
    inl (record { slot = slot; told = refl; was = is; now = refl; its = ap (λ (t : List ℕ). slot_of t (shares_of solo.groups)) (sym whole) ∙ found_slot slot found its }))
    (λ other. inr (not_left, refl))
leave_is_as text (Member slot) (Err refusal) solo is parsed = inr (not_left, refl)
leave_is_as text NotMember parsed' solo is parsed = inr (not_left, refl)
leave_is_as text (Leaving slot) parsed' solo is parsed = inr (not_left, refl)

leave_is : (text : List ℕ) (solo : SoloState) → LeaveIs text solo (leave text solo)
leave_is text solo = leave_is_as text solo.membership (share_of text) solo refl refl

pub record AllLeave (filters : List (List ℕ)) (one : SoloState) (all : AllCoded) : Type 0 where
  pub phase : all.solo.phase ≡ one.phase
  pub groups : all.solo.groups ≡ one.groups
  pub subscription : all.solo.subscription ≡ one.subscription
  pub leaves : (place slot : ℕ) (filter : List ℕ) → slice_get filters place ≡ Some filter → slice_get all.codes place ≡ Some 0 → slot_of filter (shares_of one.groups) ≡ Some slot
      → (one.membership ≡ Member slot) × (all.solo.membership ≡ Leaving slot)
  pub left : (slot : ℕ) → one.membership ≡ Member slot → (all.solo.membership ≡ Member slot) ⊎ HasCode filters all.codes 0 slot (shares_of one.groups)
  pub was : (slot : ℕ) → all.solo.membership ≡ Member slot → one.membership ≡ Member slot
  pub leaving : (slot : ℕ) → all.solo.membership ≡ Leaving slot → (one.membership ≡ Leaving slot) ⊎ HasCode filters all.codes 0 slot (shares_of one.groups)
  pub stays : (slot : ℕ) → one.membership ≡ Leaving slot → all.solo.membership ≡ Leaving slot

module _ (text : List ℕ) (one : SoloState) (c : Coded) (is : LeaveIs text one c) where
  leave_phase : c.solo.phase ≡ one.phase
  leave_phase =
      ⊎_elim
      (λ (yes' : Left text one c). ap (λ (s : SoloState). s.phase) yes'.now)
      (λ (no' : (c.code ≢ 0) × (c.solo ≡ one)). ap (λ (s : SoloState). s.phase) no'.1)
      is

  leave_groups : c.solo.groups ≡ one.groups
  leave_groups =
      ⊎_elim
      (λ (yes' : Left text one c). ap (λ (s : SoloState). s.groups) yes'.now)
      (λ (no' : (c.code ≢ 0) × (c.solo ≡ one)). ap (λ (s : SoloState). s.groups) no'.1)
      is

  leave_subscription : c.solo.subscription ≡ one.subscription
  leave_subscription =
      ⊎_elim
      (λ (yes' : Left text one c). ap (λ (s : SoloState). s.subscription) yes'.now)
      (λ (no' : (c.code ≢ 0) × (c.solo ≡ one)). ap (λ (s : SoloState). s.subscription) no'.1)
      is

  leave_told : (slot : ℕ) → c.code ≡ 0 → slot_of text (shares_of one.groups) ≡ Some slot → (one.membership ≡ Member slot) × (c.solo.membership ≡ Leaving slot)
  leave_told slot told its =
      ⊎_elim
      (λ (yes' : Left text one c).
      let same = same_Some yes'.slot slot (sym yes'.its ∙ its) in
      (yes'.was ∙ ap (λ (n : ℕ). Member n) same, ap (λ (s : SoloState). s.membership) yes'.now ∙ ap (λ (n : ℕ). Leaving n) same))
      (λ (no' : (c.code ≢ 0) × (c.solo ≡ one)). absurd (no'.0 told))
      is

  leave_left : (slot : ℕ) → one.membership ≡ Member slot → (c.solo.membership ≡ Member slot) ⊎ ((c.code ≡ 0) × (slot_of text (shares_of one.groups) ≡ Some slot))
  leave_left slot was =
      ⊎_elim
      (λ (yes' : Left text one c). let same : Some yes'.slot ≡ Some slot = (let e : Member yes'.slot ≡ Member slot = sym yes'.was ∙ was in cc) in inr (yes'.told, yes'.its ∙ same))
      (λ (no' : (c.code ≢ 0) × (c.solo ≡ one)). inl (ap (λ (s : SoloState). s.membership) no'.1 ∙ was))
      is

  leave_was : (slot : ℕ) → c.solo.membership ≡ Member slot → one.membership ≡ Member slot
  leave_was slot now =
      ⊎_elim
      (λ (yes' : Left text one c). let e : Leaving yes'.slot ≡ Member slot = sym (ap (λ (s : SoloState). s.membership) yes'.now) ∙ now in absurd cc)
      (λ (no' : (c.code ≢ 0) × (c.solo ≡ one)). ap (λ (s : SoloState). s.membership) (sym no'.1) ∙ now)
      is

  leave_leaving : (slot : ℕ) → c.solo.membership ≡ Leaving slot → (one.membership ≡ Leaving slot) ⊎ ((c.code ≡ 0) × (slot_of text (shares_of one.groups) ≡ Some slot))
  leave_leaving slot now =
      ⊎_elim
      (λ (yes' : Left text one c).
      let same : Some yes'.slot ≡ Some slot = (let e : Leaving yes'.slot ≡ Leaving slot = sym (ap (λ (s : SoloState). s.membership) yes'.now) ∙ now in cc) in inr (yes'.told, yes'.its ∙ same))
      (λ (no' : (c.code ≢ 0) × (c.solo ≡ one)). inl (ap (λ (s : SoloState). s.membership) (sym no'.1) ∙ now))
      is

  leave_stays : (slot : ℕ) → one.membership ≡ Leaving slot → c.solo.membership ≡ Leaving slot
  leave_stays slot was =
      ⊎_elim
      (λ (yes' : Left text one c). let e : Member yes'.slot ≡ Leaving slot = sym yes'.was ∙ was in absurd cc)
      (λ (no' : (c.code ≢ 0) × (c.solo ≡ one)). ap (λ (s : SoloState). s.membership) no'.1 ∙ was)
      is

module _ (text : List ℕ) (texts : List (List ℕ)) (solo : SoloState) (one : Coded) (is : LeaveIs text solo one) (rest : AllCoded) (later : AllLeave texts one.solo rest) where
  same_groups : one.solo.groups ≡ solo.groups
  same_groups = leave_groups text solo one is

  here : (slot : ℕ) → one.code ≡ 0 → slot_of text (shares_of solo.groups) ≡ Some slot → HasCode (text ∷ texts) (one.code ∷ rest.codes) 0 slot (shares_of solo.groups)
  here slot told its = record { place = zero; filter = text; asked = refl; coded = ap (λ (n : ℕ). Some n) told; its = its }

  behind : (slot : ℕ) → HasCode texts rest.codes 0 slot (shares_of one.solo.groups) → HasCode (text ∷ texts) (one.code ∷ rest.codes) 0 slot (shares_of solo.groups)
  behind slot has =
      subst (λ (gs : List Bound). HasCode (text ∷ texts) (one.code ∷ rest.codes) 0 slot (shares_of gs)) same_groups
      (one_more text texts one.code rest.codes 0 slot (shares_of one.solo.groups) has)

  leaves_at : (place slot : ℕ) (filter : List ℕ) → slice_get (text ∷ texts) place ≡ Some filter → slice_get (one.code ∷ rest.codes) place ≡ Some 0 → slot_of filter (shares_of solo.groups) ≡ Some slot
      → (solo.membership ≡ Member slot) × (rest.solo.membership ≡ Leaving slot)
  leaves_at zero slot filter asked told its =
      let text_is = same_Some text filter asked in
      let now = leave_told text solo one is slot (same_Some one.code 0 told) (ap (λ (t : List ℕ). slot_of t (shares_of solo.groups)) text_is ∙ its) in
      (now.0, later.stays slot now.1)
  leaves_at (suc place) slot filter asked told its =
      let last = later.leaves place slot filter asked told (ap (λ (gs : List Bound). slot_of filter (shares_of gs)) same_groups ∙ its) in
      (leave_was text solo one is slot last.0, last.1)

  first_leaves : AllLeave (text ∷ texts) solo (coded_first one.code rest)
  first_leaves =
      record {
        phase = later.phase ∙ leave_phase text solo one is;
        groups = later.groups ∙ same_groups;
        subscription = later.subscription ∙ leave_subscription text solo one is;
        leaves = leaves_at;
        left = λ slot was.
            ⊎_elim
            (λ (still : one.solo.membership ≡ Member slot).
            ⊎_elim
            (λ (last : rest.solo.membership ≡ Member slot). inl last)
            (λ (has : HasCode texts rest.codes 0 slot (shares_of one.solo.groups)). inr (behind slot has))
            (later.left slot still))
            (λ (told : (one.code ≡ 0) × (slot_of text (shares_of solo.groups) ≡ Some slot)). inr (here slot told.0 told.1))
            (leave_left text solo one is slot was);
        was = λ slot now. leave_was text solo one is slot (later.was slot now);
        leaving = λ slot now.
            ⊎_elim
            (λ (still : one.solo.membership ≡ Leaving slot).
            ⊎_elim
            (λ (before : solo.membership ≡ Leaving slot). inl before)
            (λ (told : (one.code ≡ 0) × (slot_of text (shares_of solo.groups) ≡ Some slot)). inr (here slot told.0 told.1))
            (leave_leaving text solo one is slot still))
            (λ (has : HasCode texts rest.codes 0 slot (shares_of one.solo.groups)). inr (behind slot has))
            (later.leaving slot now);
        stays = λ slot was. later.stays slot (leave_stays text solo one is slot was);
      }

pub all_leave : (texts : List (List ℕ)) (solo : SoloState) → AllLeave texts solo (leave_all texts solo)
all_leave [] solo =
    record {
      phase = refl;
      groups = refl;
      subscription = refl;
      leaves = λ place slot filter asked told its. absurd (none_there place filter asked);
      left = λ slot was. inl was;
      was = λ slot now. now;
      leaving = λ slot now. inl now;
      stays = λ slot was. was;
    }
all_leave (text ∷ texts) solo =
    let one = leave text solo in first_leaves text texts solo one (leave_is text solo) (leave_all texts one.solo) (all_leave texts one.solo)

-- ---- who is let go

leaves_told : (text : List ℕ) (share : Share) (solo : SoloState) (slot : ℕ) → share_of text ≡ Ok share → share.text ≡ text → solo.membership ≡ Member slot → slot_of text (shares_of solo.groups) ≡ Some slot → (leave text solo).code ≡ 0
leaves_told text share solo slot spelled whole member its =
    ap (λ (m : Membership ℕ). (leave_as m (share_of text) solo).code) member
    ∙ ap (λ (r : Result Share TopicError). (leave_as (Member slot) r solo).code) spelled
    ∙ ap (λ (f : Option ℕ). (leave_if slot f solo).code) (ap (λ (t : List ℕ). slot_of t (shares_of solo.groups)) whole ∙ its)
    ∙ ap (λ (b : Bool). (cond b (coded 0 (with_membership (Leaving slot) solo)) (coded 0x11 solo)).code) (eq-eqb slot slot refl)

module _ (share : Share) (spelled : share_of share.text ≡ Ok share) where
  pub lets_go : (texts : List (List ℕ)) (solo : SoloState) (place slot : ℕ) → slice_get texts place ≡ Some share.text → solo.membership ≡ Member slot → slot_of share.text (shares_of solo.groups) ≡ Some slot
      → HasCode texts (leave_all texts solo).codes 0 slot (shares_of solo.groups)
  lets_go [] solo place slot asked member its = absurd (none_there place share.text asked)
  lets_go (text ∷ texts) solo zero slot asked member its =
      let same = same_Some text share.text asked in
      let one = leave text solo in
      here text texts solo one (leave_is text solo) (leave_all texts one.solo) (all_leave texts one.solo) slot
      (ap (λ (t : List ℕ). (leave t solo).code) same ∙ leaves_told share.text share solo slot spelled refl member its)
      (ap (λ (t : List ℕ). slot_of t (shares_of solo.groups)) same ∙ its)
  lets_go (text ∷ texts) solo (suc place) slot asked member its =
      let one = leave text solo in
      let is = leave_is text solo in
      let rest = leave_all texts one.solo in
      let later = all_leave texts one.solo in
      ⊎_elim
      (λ (still : one.solo.membership ≡ Member slot).
      behind text texts solo one is rest later slot
      (lets_go texts one.solo place slot asked still (ap (λ (gs : List Bound). slot_of share.text (shares_of gs)) (leave_groups text solo one is) ∙ its)))
      (λ (told : (one.code ≡ 0) × (slot_of text (shares_of solo.groups) ≡ Some slot)). here text texts solo one is rest later slot told.0 told.1)
      (leave_left text solo one is slot member)
