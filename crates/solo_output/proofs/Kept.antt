-- What every move of a model keeps: identifiers that differ, the quota, and in each group its order, its life and its capacity.
use Rattle.std.proofs.Common.{◌≡◌, ◌≢◌, ℕ, suc, ◌+◌, ◌<◌, ◌≤◌, ◌==◌, ◌&&◌, ◌||◌, not, nat_le, min, Bool, true, false, cond, List, [], ◌∷◌, ◌++◌, map, length, drop, Option, refl, sym, ap, ◌∙◌, subst, ⊎_elim, arith}
use Rattle.std.specs.List.{AllByRecursion}
use Rattle.std.proofs.lemmas.Bool.{both_ways, cases_eq, cases_lt, le-leb}
use Rattle.std.proofs.lemmas.List.{append-nil, length-map, length-drop, length_push}
use Rattle.mqtt_packet.specs.declared.packet.Packet.{Packet}
use Rattle.mqtt_topic.specs.Names.{Share}
use Rattle.group_jobs.specs.declared.message.Message.{Message}
use Rattle.local_group.specs.Groups.{life}
use Rattle.member_window.specs.Identifiers.{AreDistinct, identifiers_without}
use Rattle.member_window.proofs.Lists.{distinct_push, distinct_without, length-without}
use Rattle.session_desk.specs.declared.session.Membership.{Membership}
use Rattle.session_desk.specs.declared.session.Membership.TheVariants.{NotMember, Member, Leaving}
use Rattle.conn_rules.specs.HandOuts.{is_discarded}
use Rattle.solo_output.specs.Groups.{SoloState, HandOut, Outcome, bound, opening, accepted_in, handed_in, waiting_in, is_open, open_identifiers, settled, unacknowledged, with_message, with_share, with_puback, with_hand_out, with_membership}
use Rattle.solo_output.specs.Groups.Outcome.{Unacknowledged, Acknowledged, Discarded}
use Rattle.solo_output.specs.Groups.Phase.{Unconnected, Connected}
use Rattle.solo_output.specs.HandOuts.{quota, least_free, terms_in, outcome_of, next_hand_out}
use Rattle.solo_output.specs.Publishing.{is_full}
use Rattle.solo_output.specs.Replies.{reply, solo_step, solo_steps}
use Rattle.solo_output.specs.Runs.{IsInGroup}
use Rattle.solo_output.proofs.Groups.{all_kept, all_push}
use Rattle.solo_output.proofs.Lists.{handed, open_push, open_discarded, handed_in_push_same, handed_in_push_other, open_settled, handed_in_settled}
use Rattle.solo_output.proofs.Brokers.{accepted_same, accepted_other, accepted_bound, accepted_first, length-accepting}
use Rattle.solo_output.proofs.Identifiers.{is_least, least_small}
use Rattle.solo_output.proofs.Moves.{MayJoin, Ways, replied, turned, ran}

abbrev pub IsSmall : ℕ → Type 0
IsSmall identifier = (1 ≤ identifier) × (identifier ≤ 256)

-- what is unacknowledged is of the client's own group
abbrev pub IsOwn : Membership ℕ → HandOut → Type 0
IsOwn membership hand_out = hand_out.outcome ≡ Unacknowledged → IsInGroup membership hand_out.slot

pub record Kept (solo : SoloState) : Type 0 where
  pub small : AllByRecursion IsSmall (unacknowledged solo)
  pub distinct : AreDistinct (unacknowledged solo)
  pub room : length (unacknowledged solo) ≤ quota solo
  pub fresh : solo.phase ≡ Unconnected → solo.handed_out ≡ []
  pub order : (slot : ℕ) → length (handed_in slot solo.handed_out) ≤ length (accepted_in slot solo.groups)
  pub lives : (slot : ℕ) → length (accepted_in slot solo.groups) ≤ life
  pub fits : (slot : ℕ) → length (waiting_in slot solo) ≤ solo.capacity
  pub own : AllByRecursion (IsOwn solo.membership) solo.handed_out
  pub bound : (slot : ℕ) → IsInGroup solo.membership slot → slot < length solo.groups

pub kept_first : (capacity max_inflight : ℕ) (shares : List Share) → Kept (opening capacity max_inflight shares)
kept_first capacity max_inflight shares =
    record {
      small = tt;
      distinct = tt;
      room = omega arith;
      fresh = λ e. refl;
      order = λ slot. omega arith;
      lives = λ slot. omega (arith, ap length (accepted_first slot shares));
      fits = λ slot. omega (arith, ap length (accepted_first slot shares));
      own = tt;
      bound = λ slot in_. absurd in_;
    }

-- ---- another membership

all_own : (P Q : HandOut → Type 0) (hand_outs : List HandOut) → ((hand_out : HandOut) → P hand_out → Q hand_out) → AllByRecursion P hand_outs → AllByRecursion Q hand_outs
all_own P Q [] so all = tt
all_own P Q (hand_out ∷ hand_outs) so all = (so hand_out all.0, all_own P Q hand_outs so all.1)

kept_as : (membership : Membership ℕ) (solo : SoloState) → ((hand_out : HandOut) → IsOwn solo.membership hand_out → IsOwn membership hand_out) → (Kept solo → (slot : ℕ) → IsInGroup membership slot → slot < length solo.groups) → Kept solo
    → Kept (with_membership membership solo)
kept_as membership solo so there k =
    record { small = k.small; distinct = k.distinct; room = k.room; fresh = k.fresh; order = k.order; lives = k.lives; fits = k.fits; own = all_own (IsOwn solo.membership) (IsOwn membership) solo.handed_out so k.own; bound = there k }

may_own : (before : Membership ℕ) (slot : ℕ) (hand_out : HandOut) → MayJoin before slot → IsOwn before hand_out → IsOwn (Member slot) hand_out
may_own NotMember slot hand_out may its none = absurd (its none)
may_own (Member own) slot hand_out may its none = sym may ∙ its none
may_own (Leaving own) slot hand_out may its none = sym may ∙ its none

leaving_own : (membership : Membership ℕ) (slot : ℕ) (hand_out : HandOut) → membership ≡ Member slot → IsOwn membership hand_out → IsOwn (Leaving slot) hand_out
leaving_own membership slot hand_out is its none = subst (λ (m : Membership ℕ). IsInGroup m hand_out.slot) is (its none)

-- where nothing is unacknowledged, all hand-outs are settled
none_first : (membership : Membership ℕ) (slot : ℕ) (subscription : Option ℕ) (identifier : ℕ) (outcome : Outcome) (hand_outs : List HandOut) → open_identifiers (handed slot subscription identifier outcome ∷ hand_outs) ≡ []
    → (open_identifiers hand_outs ≡ [] → AllByRecursion (IsOwn membership) hand_outs) → AllByRecursion (IsOwn membership) (handed slot subscription identifier outcome ∷ hand_outs)
none_first membership slot subscription identifier Unacknowledged hand_outs none later = absurd cc
none_first membership slot subscription identifier (Acknowledged code) hand_outs none later = (λ e. absurd cc, later none)
none_first membership slot subscription identifier Discarded hand_outs none later = (λ e. absurd cc, later none)

none_open : (membership : Membership ℕ) (hand_outs : List HandOut) → open_identifiers hand_outs ≡ [] → AllByRecursion (IsOwn membership) hand_outs
none_open membership [] none = tt
none_open membership (h ∷ hand_outs) none = none_first membership h.slot h.subscription h.identifier h.outcome hand_outs none (λ e. none_open membership hand_outs e)

-- ---- a message is accepted

not_either : (x y : Bool) → (x || y) ≡ false → (x ≡ false) × (y ≡ false)
not_either true y e = absurd cc
not_either false y e = (refl, e)

below : (n m : ℕ) → nat_le n m ≡ false → m < n
below n m e = ⊎_elim (λ (less : m < n). less) (λ (not_less : n ≤ m). absurd (both_ways (nat_le n m) e (le-leb n m not_less))) (cases_lt m n)

pub kept_accepting : (slot : ℕ) (message : Message) (solo : SoloState) → slot < length solo.groups → is_full slot solo ≡ false → Kept solo → Kept (with_message slot message solo)
kept_accepting slot message solo within room k =
    let not_full = not_either _ _ room in
    let young : length (accepted_in slot solo.groups) < life = below life (length (accepted_in slot solo.groups)) not_full.0 in
    let free : length (waiting_in slot solo) < solo.capacity = below solo.capacity (length (waiting_in slot solo)) not_full.1 in
    let more : length (accepted_in slot (with_message slot message solo).groups) ≡ length (accepted_in slot solo.groups) + 1 =
    ap length (accepted_same slot message solo.groups within) ∙ length_push (accepted_in slot solo.groups) message in
    let many = λ (s : SoloState). λ (at : ℕ). length-drop (length (handed_in at s.handed_out)) (accepted_in at s.groups) in
    record {
      small = k.small;
      distinct = k.distinct;
      room = k.room;
      fresh = k.fresh;
      order = λ at.
          ⊎_elim
          (λ (is : at ≡ slot). subst (λ (n : ℕ). length (handed_in n solo.handed_out) ≤ length (accepted_in n (with_message slot message solo).groups)) (sym is) (omega (arith, more, k.order slot)))
          (λ (other : at ≢ slot). omega (arith, ap length (accepted_other slot at message solo.groups other), k.order at))
          (cases_eq at slot);
      lives = λ at.
          ⊎_elim
          (λ (is : at ≡ slot). subst (λ (n : ℕ). length (accepted_in n (with_message slot message solo).groups) ≤ life) (sym is) (omega (arith, more, young)))
          (λ (other : at ≢ slot). omega (arith, ap length (accepted_other slot at message solo.groups other), k.lives at))
          (cases_eq at slot);
      fits = λ at.
          ⊎_elim
          (λ (is : at ≡ slot). subst (λ (n : ℕ). length (waiting_in n (with_message slot message solo)) ≤ solo.capacity) (sym is) (omega (arith, more, free, many solo slot, many (with_message slot message solo) slot)))
          (λ (other : at ≢ slot). omega (arith, ap length (accepted_other slot at message solo.groups other), many solo at, many (with_message slot message solo) at, k.fits at))
          (cases_eq at slot);
      own = k.own;
      bound = λ at in_. omega (arith, length-accepting slot message solo.groups, k.bound at in_);
    }

kept_binding : (share : Share) (solo : SoloState) → Kept solo → Kept (with_share share solo)
kept_binding share solo k =
    let same = λ (slot : ℕ). ap length (accepted_bound slot share solo.groups) in
    let many = λ (s : SoloState). λ (at : ℕ). length-drop (length (handed_in at s.handed_out)) (accepted_in at s.groups) in
    record {
      small = k.small;
      distinct = k.distinct;
      room = k.room;
      fresh = k.fresh;
      order = λ slot. omega (arith, same slot, k.order slot);
      lives = λ slot. omega (arith, same slot, k.lives slot);
      fits = λ slot. omega (arith, same slot, many solo slot, many (with_share share solo) slot, k.fits slot);
      own = k.own;
      bound = λ at in_. omega (arith, length_push solo.groups (bound share), k.bound at in_);
    }

-- ---- a PUBACK

settled_own : (membership : Membership ℕ) (code : ℕ) (b : Bool) (hand_out : HandOut) → IsOwn membership hand_out → IsOwn membership (cond b (record hand_out { outcome = Acknowledged code }) hand_out)
settled_own membership code true hand_out its none = absurd cc
settled_own membership code false hand_out its none = its none

all_settled : (membership : Membership ℕ) (identifier code : ℕ) (hand_outs : List HandOut) → AllByRecursion (IsOwn membership) hand_outs → AllByRecursion (IsOwn membership) (map (settled identifier code) hand_outs)
all_settled membership identifier code [] all = tt
all_settled membership identifier code (h ∷ hand_outs) all = (settled_own membership code (is_open h && (h.identifier == identifier)) h all.0, all_settled membership identifier code hand_outs all.1)

pub kept_settling : (identifier code : ℕ) (solo : SoloState) → Kept solo → Kept (with_puback identifier code solo)
kept_settling identifier code solo k =
    let opens : unacknowledged (with_puback identifier code solo) ≡ identifiers_without identifier (unacknowledged solo) = open_settled identifier code solo.handed_out in
    let same : (slot : ℕ) → length (handed_in slot (with_puback identifier code solo).handed_out) ≡ length (handed_in slot solo.handed_out) =
    λ slot. ap length (handed_in_settled identifier code slot solo.handed_out) ∙ length-map (handed_in slot solo.handed_out) (settled identifier code) in
    record {
      small = subst (AllByRecursion IsSmall) (sym opens) (all_kept IsSmall (λ other. not (other == identifier)) (unacknowledged solo) k.small);
      distinct = subst AreDistinct (sym opens) (distinct_without identifier (unacknowledged solo) k.distinct);
      room = omega (arith, ap length opens, length-without identifier (unacknowledged solo), k.room);
      fresh = λ e. ap (map (settled identifier code)) (k.fresh e);
      order = λ slot. omega (arith, same slot, k.order slot);
      lives = k.lives;
      fits = λ slot. subst (λ (n : ℕ). length (drop n (accepted_in slot solo.groups)) ≤ solo.capacity) (sym (same slot)) (k.fits slot);
      own = all_settled solo.membership identifier code solo.handed_out k.own;
      bound = k.bound;
    }

-- ---- a hand-out

-- what is unacknowledged then
opens_behind : (discarded : Bool) (slot : ℕ) (solo : SoloState) → let used = unacknowledged solo in let next = least_free used in
    open_identifiers (solo.handed_out ++ handed slot solo.subscription next (outcome_of discarded) ∷ []) ≡ used ++ cond discarded [] (next ∷ [])
opens_behind true slot solo = open_discarded solo.handed_out slot solo.subscription (least_free (unacknowledged solo)) ∙ sym (append-nil (unacknowledged solo))
opens_behind false slot solo = open_push solo.handed_out slot solo.subscription (least_free (unacknowledged solo))

-- identifiers that are as they have to be, and one more
record AreFree (used : List ℕ) (most : ℕ) : Type 0 where
  small : AllByRecursion IsSmall used
  distinct : AreDistinct used
  room : length used ≤ most

free_behind : (discarded : Bool) (used : List ℕ) (most : ℕ) → length used < most → most ≤ 256 → AreFree used most → AreFree (used ++ cond discarded [] (least_free used ∷ [])) most
free_behind true used most less few free = subst (λ (l : List ℕ). AreFree l most) (sym (append-nil used)) free
free_behind false used most less few free =
    let next = least_free used in
    let least = is_least used in
    record {
      small = all_push IsSmall used next free.small (least.not_zero, omega (arith, least_small used, less, few));
      distinct = distinct_push used next free.distinct least.free;
      room = omega (arith, length_push used next, less);
    }

few_at_once : (asked : ℕ) → min asked 256 ≤ 256
few_at_once asked = omega arith

pub kept_handing : (slot : ℕ) (message : Message) (rest : List Message) (solo : SoloState) → solo.phase ≡ Connected → solo.membership ≡ Member slot → length (unacknowledged solo) < quota solo → waiting_in slot solo ≡ message ∷ rest
    → Kept solo → Kept (with_hand_out (next_hand_out slot message solo) solo)
kept_handing slot message rest solo connected member less waits k =
    let used = unacknowledged solo in
    let discarded = is_discarded (terms_in solo) message in
    let one = next_hand_out slot message solo in
    let behind = with_hand_out one solo in
    let opens : unacknowledged behind ≡ used ++ cond discarded [] (least_free used ∷ []) = opens_behind discarded slot solo in
    let free : AreFree (unacknowledged behind) (quota solo) =
    subst (λ (l : List ℕ). AreFree l (quota solo)) (sym opens)
    (free_behind discarded used (quota solo) less (few_at_once solo.terms.receive_maximum) (record { small = k.small; distinct = k.distinct; room = k.room })) in
    let some : length (waiting_in slot solo) ≡ suc (length rest) = ap length waits in
    let many = λ (s : SoloState). λ (at : ℕ). length-drop (length (handed_in at s.handed_out)) (accepted_in at s.groups) in
    let one_more : length (handed_in slot behind.handed_out) ≡ length (handed_in slot solo.handed_out) + 1 = ap length (handed_in_push_same solo.handed_out one) ∙ length_push (handed_in slot solo.handed_out) one in
    let others : (at : ℕ) → at ≢ slot → length (handed_in at behind.handed_out) ≡ length (handed_in at solo.handed_out) = λ at other. ap length (handed_in_push_other solo.handed_out one at (λ e. other (sym e))) in
    record {
      small = free.small;
      distinct = free.distinct;
      room = free.room;
      fresh = λ e. let f : Unconnected ≡ Connected = sym e ∙ connected in absurd cc;
      order = λ at.
          ⊎_elim
          (λ (is : at ≡ slot). subst (λ (n : ℕ). length (handed_in n behind.handed_out) ≤ length (accepted_in n solo.groups)) (sym is) (omega (arith, one_more, some, many solo slot)))
          (λ (other : at ≢ slot). omega (arith, others at other, k.order at))
          (cases_eq at slot);
      lives = k.lives;
      fits = λ at.
          ⊎_elim
          (λ (is : at ≡ slot). subst (λ (n : ℕ). length (waiting_in n behind) ≤ solo.capacity) (sym is) (omega (arith, one_more, some, many solo slot, many behind slot, k.fits slot)))
          (λ (other : at ≢ slot). omega (arith, others at other, many solo at, many behind at, k.fits at))
          (cases_eq at slot);
      own = all_push (IsOwn solo.membership) solo.handed_out one k.own (λ none. subst (λ (m : Membership ℕ). IsInGroup m slot) (sym member) refl);
      bound = k.bound;
    }

-- ---- every move

abbrev pub Keeps : SoloState → SoloState → Type 0
Keeps one two = Kept one → Kept two

pub keeps : Ways Keeps
keeps =
    record {
      stays = λ solo k. k;
      goes_on = λ one two three first later k. later (first k);
      connects = λ connect solo is k.
          record {
            small = k.small;
            distinct = k.distinct;
            room = omega (arith, ap (λ (hs : List HandOut). length (open_identifiers hs)) (k.fresh is));
            fresh = λ e. absurd cc;
            order = k.order;
            lives = k.lives;
            fits = k.fits;
            own = k.own;
            bound = k.bound;
          };
      closes = λ solo k. record { small = k.small; distinct = k.distinct; room = k.room; fresh = λ e. absurd cc; order = k.order; lives = k.lives; fits = k.fits; own = k.own; bound = k.bound };
      expires = λ expiry solo k. record { small = k.small; distinct = k.distinct; room = k.room; fresh = k.fresh; order = k.order; lives = k.lives; fits = k.fits; own = k.own; bound = k.bound };
      binds = λ share solo none few. kept_binding share solo;
      joins = λ slot solo may within. kept_as (Member slot) solo (λ hand_out. may_own solo.membership slot hand_out may) (λ k at in_. subst (λ (n : ℕ). n < length solo.groups) in_ within);
      leaves = λ slot solo is. kept_as (Leaving slot) solo (λ hand_out. leaving_own solo.membership slot hand_out is) (λ k at in_. k.bound at (subst (λ (m : Membership ℕ). IsInGroup m at) (sym is) in_));
      parts = λ slot solo is none k.
          record { small = k.small; distinct = k.distinct; room = k.room; fresh = k.fresh; order = k.order; lives = k.lives; fits = k.fits; own = none_open NotMember solo.handed_out none; bound = λ slot in_. absurd in_ };
      subscribes = λ subscription solo k. record { small = k.small; distinct = k.distinct; room = k.room; fresh = k.fresh; order = k.order; lives = k.lives; fits = k.fits; own = k.own; bound = k.bound };
    }

pub kept_replying : (packet : Packet) (solo : SoloState) → Kept solo → Kept (reply packet solo).solo
kept_replying = replied Keeps keeps kept_accepting kept_settling

pub kept_turning : (packet : Packet) (solo : SoloState) → Kept solo → Kept (solo_step packet solo).solo
kept_turning = turned Keeps keeps kept_accepting kept_settling kept_handing

pub kept_ran : (packets : List Packet) (solo : SoloState) → Kept solo → Kept (solo_steps packets solo).solo
kept_ran = ran Keeps keeps kept_accepting kept_settling kept_handing
