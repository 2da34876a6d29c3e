-- Hand-outs in their lists: what a PUBACK settles, and what a further one adds.
use Rattle.std.proofs.Common.{◌≡◌, ◌≢◌, ℕ, suc, ◌+◌, ◌-◌, ◌<◌, ◌≤◌, ◌==◌, ◌&&◌, not, Bool, true, false, cond, List, [], ◌∷◌, ◌++◌, map, length, drop, get_or, Contains, Option, refl, sym, ap, ◌∙◌, subst, ⊎_elim, arith, eq-eqb, ne_eqb, add-zero}
use Rattle.std.specs.List.{filter, count_by}
use Rattle.std.proofs.lemmas.Bool.{cases_eq}
use Rattle.std.proofs.lemmas.List.{map-append, drop_more, length-drop, append-nil}
use Rattle.std.proofs.lemmas.List.Elements.{filter-append}
use Rattle.std.proofs.lemmas.List.Sums.{sum_by-cons, sum_by_push}
use Rattle.member_window.specs.Identifiers.{identifiers_without, AreDistinct}
use Rattle.member_window.proofs.Lists.{contains_here, contains_there, contains_cons_cases, contains_nil}
use Rattle.solo_output.specs.Groups.{HandOut, Outcome, handed_in, is_open, open_identifiers, settled}
use Rattle.solo_output.specs.Groups.Outcome.{Unacknowledged, Acknowledged, Discarded}

abbrev pub handed : ℕ → Option ℕ → ℕ → Outcome → HandOut
handed slot subscription identifier outcome = record { slot = slot; subscription = subscription; identifier = identifier; outcome = outcome }

-- ---- one more

pub open_push : (hand_outs : List HandOut) (slot : ℕ) (subscription : Option ℕ) (identifier : ℕ) → open_identifiers (hand_outs ++ handed slot subscription identifier Unacknowledged ∷ []) ≡ open_identifiers hand_outs ++ identifier ∷ []
open_push hand_outs slot subscription identifier =
    ap (λ (hs : List HandOut). map (λ h. h.identifier) hs) (filter-append is_open hand_outs (handed slot subscription identifier Unacknowledged ∷ []))
    ∙ map-append (λ (h : HandOut). h.identifier) (filter is_open hand_outs) (handed slot subscription identifier Unacknowledged ∷ [])

-- one that is discarded is never open
pub open_discarded : (hand_outs : List HandOut) (slot : ℕ) (subscription : Option ℕ) (identifier : ℕ) → open_identifiers (hand_outs ++ handed slot subscription identifier Discarded ∷ []) ≡ open_identifiers hand_outs
open_discarded hand_outs slot subscription identifier =
    ap (λ (hs : List HandOut). map (λ h. h.identifier) hs) (filter-append is_open hand_outs (handed slot subscription identifier Discarded ∷ []) ∙ append-nil (filter is_open hand_outs))

pub handed_in_push_same : (hand_outs : List HandOut) (one : HandOut) → handed_in one.slot (hand_outs ++ one ∷ []) ≡ handed_in one.slot hand_outs ++ one ∷ []
handed_in_push_same hand_outs one =
    filter-append (λ h. h.slot == one.slot) hand_outs (one ∷ [])
    ∙ ap (λ b. handed_in one.slot hand_outs ++ cond b (one ∷ []) []) (eq-eqb one.slot one.slot refl)

pub handed_in_push_other : (hand_outs : List HandOut) (one : HandOut) (other : ℕ) → one.slot ≢ other → handed_in other (hand_outs ++ one ∷ []) ≡ handed_in other hand_outs
handed_in_push_other hand_outs one other differs =
    filter-append (λ h. h.slot == other) hand_outs (one ∷ [])
    ∙ ap (λ b. handed_in other hand_outs ++ cond b (one ∷ []) []) (ne_eqb one.slot other differs)
    ∙ append-nil (handed_in other hand_outs)

-- how many have an outcome that passes, where that of a further one does not, or does
pub count_push : (passes : Outcome → Bool) (hand_outs : List HandOut) (one : HandOut) → passes one.outcome ≡ false
    → count_by (λ (h : HandOut). passes h.outcome) (hand_outs ++ one ∷ []) ≡ count_by (λ (h : HandOut). passes h.outcome) hand_outs
count_push passes hand_outs one fails =
    sum_by_push (λ (h : HandOut). cond (passes h.outcome) 1 0) hand_outs one
    ∙ ap (λ b. count_by (λ (h : HandOut). passes h.outcome) hand_outs + cond b 1 0) fails
    ∙ add-zero (count_by (λ (h : HandOut). passes h.outcome) hand_outs)

pub count_push_one : (passes : Outcome → Bool) (hand_outs : List HandOut) (one : HandOut) → passes one.outcome ≡ true
    → count_by (λ (h : HandOut). passes h.outcome) (hand_outs ++ one ∷ []) ≡ count_by (λ (h : HandOut). passes h.outcome) hand_outs + 1
count_push_one passes hand_outs one succeeds =
    sum_by_push (λ (h : HandOut). cond (passes h.outcome) 1 0) hand_outs one
    ∙ ap (λ b. count_by (λ (h : HandOut). passes h.outcome) hand_outs + cond b 1 0) succeeds

-- ---- a PUBACK

-- a hand-out that is open under another identifier, or settled, stays
settled_same : (slot : ℕ) (subscription : Option ℕ) (code identifier : ℕ) → settled identifier code (handed slot subscription identifier Unacknowledged) ≡ handed slot subscription identifier (Acknowledged code)
settled_same slot subscription code identifier = ap (λ b. cond b (handed slot subscription identifier (Acknowledged code)) (handed slot subscription identifier Unacknowledged)) (eq-eqb identifier identifier refl)

settled_other : (slot : ℕ) (subscription : Option ℕ) (own identifier code : ℕ) → own ≢ identifier → settled identifier code (handed slot subscription own Unacknowledged) ≡ handed slot subscription own Unacknowledged
settled_other slot subscription own identifier code differs = ap (λ b. cond b (handed slot subscription own (Acknowledged code)) (handed slot subscription own Unacknowledged)) (ne_eqb own identifier differs)

module _ (identifier code : ℕ) where
  -- where none is open under the identifier, all stay
  nothing_first : (slot : ℕ) (subscription : Option ℕ) (own : ℕ) (was : Outcome) (hs : List HandOut) → ¬ Contains (open_identifiers (handed slot subscription own was ∷ hs)) identifier
      → (¬ Contains (open_identifiers hs) identifier → map (settled identifier code) hs ≡ hs)
      → map (settled identifier code) (handed slot subscription own was ∷ hs) ≡ handed slot subscription own was ∷ hs
  nothing_first slot subscription own Unacknowledged hs none later =
      let other : own ≢ identifier = λ e. none (subst (λ (x : ℕ). Contains (own ∷ open_identifiers hs) x) e (contains_here own (open_identifiers hs))) in
      let rest = later (λ c. none (contains_there own (open_identifiers hs) identifier c)) in
      λ i. settled_other slot subscription own identifier code other i ∷ rest i
  nothing_first slot subscription own (Acknowledged is) hs none later = ap (λ (l : List HandOut). handed slot subscription own (Acknowledged is) ∷ l) (later none)
  nothing_first slot subscription own Discarded hs none later = ap (λ (l : List HandOut). handed slot subscription own Discarded ∷ l) (later none)

  pub settles_none : (hs : List HandOut) → ¬ Contains (open_identifiers hs) identifier → map (settled identifier code) hs ≡ hs
  settles_none [] none = refl
  settles_none (h ∷ hs) none = nothing_first h.slot h.subscription h.identifier h.outcome hs none (λ absent. settles_none hs absent)

  -- what is open then
  open_first : (slot : ℕ) (subscription : Option ℕ) (own : ℕ) (was : Outcome) (hs : List HandOut) → open_identifiers (map (settled identifier code) hs) ≡ identifiers_without identifier (open_identifiers hs)
      → open_identifiers (map (settled identifier code) (handed slot subscription own was ∷ hs)) ≡ identifiers_without identifier (open_identifiers (handed slot subscription own was ∷ hs))
  open_first slot subscription own Unacknowledged hs later =
      let js = open_identifiers hs in
      let tested = λ (b : Bool). open_identifiers (cond b (handed slot subscription own (Acknowledged code)) (handed slot subscription own Unacknowledged) ∷ map (settled identifier code) hs) in
      let without = λ (b : Bool). cond (not b) (own ∷ identifiers_without identifier js) (identifiers_without identifier js) in
      ⊎_elim
      (λ (is : own ≡ identifier). ap tested (eq-eqb own identifier is) ∙ later ∙ sym (ap without (eq-eqb own identifier is)))
      (λ (other : own ≢ identifier). ap tested (ne_eqb own identifier other) ∙ ap (λ (l : List ℕ). own ∷ l) later ∙ sym (ap without (ne_eqb own identifier other)))
      (cases_eq own identifier)
  open_first slot subscription own (Acknowledged is) hs later = later
  open_first slot subscription own Discarded hs later = later

  pub open_settled : (hs : List HandOut) → open_identifiers (map (settled identifier code) hs) ≡ identifiers_without identifier (open_identifiers hs)
  open_settled [] = refl
  open_settled (h ∷ hs) = open_first h.slot h.subscription h.identifier h.outcome hs (open_settled hs)

  -- those of one slot
  slot_kept : (b : Bool) (h : HandOut) → (cond b (record h { outcome = Acknowledged code }) h).slot ≡ h.slot
  slot_kept true h = refl
  slot_kept false h = refl

  kept_if : (b : Bool) (h : HandOut) (hs : List HandOut) → cond b (settled identifier code h ∷ map (settled identifier code) hs) (map (settled identifier code) hs) ≡ map (settled identifier code) (cond b (h ∷ hs) hs)
  kept_if true h hs = refl
  kept_if false h hs = refl

  pub handed_in_settled : (slot : ℕ) (hs : List HandOut) → handed_in slot (map (settled identifier code) hs) ≡ map (settled identifier code) (handed_in slot hs)
  handed_in_settled slot [] = refl
  handed_in_settled slot (h ∷ hs) =
      ap (λ (s : ℕ). cond (s == slot) (settled identifier code h ∷ handed_in slot (map (settled identifier code) hs)) (handed_in slot (map (settled identifier code) hs)))
      (slot_kept (is_open h && (h.identifier == identifier)) h)
      ∙ ap (λ (l : List HandOut). cond (h.slot == slot) (settled identifier code h ∷ l) l) (handed_in_settled slot hs)
      ∙ kept_if (h.slot == slot) h (handed_in slot hs)

  -- how many have an outcome that passes: one more, where this one does
  module _ (passes : Outcome → Bool) (fails : passes Unacknowledged ≡ false) where
    abbrev one_if : HandOut → ℕ
    one_if h = cond (passes h.outcome) 1 0

    count_first : (slot : ℕ) (subscription : Option ℕ) (own : ℕ) (was : Outcome) (hs : List HandOut) → AreDistinct (open_identifiers (handed slot subscription own was ∷ hs)) → Contains (open_identifiers (handed slot subscription own was ∷ hs)) identifier
        → (AreDistinct (open_identifiers hs) → Contains (open_identifiers hs) identifier
        → count_by (λ (h : HandOut). passes h.outcome) (map (settled identifier code) hs) ≡ count_by (λ (h : HandOut). passes h.outcome) hs + cond (passes (Acknowledged code)) 1 0)
        → count_by (λ (h : HandOut). passes h.outcome) (map (settled identifier code) (handed slot subscription own was ∷ hs)) ≡ count_by (λ (h : HandOut). passes h.outcome) (handed slot subscription own was ∷ hs) + cond (passes (Acknowledged code)) 1 0
    count_first slot subscription own Unacknowledged hs distinct there later =
        let count = λ (l : List HandOut). count_by (λ (h : HandOut). passes h.outcome) l in
        let weight = one_if in
        let tested = λ (b : Bool). count (cond b (handed slot subscription own (Acknowledged code)) (handed slot subscription own Unacknowledged) ∷ map (settled identifier code) hs) in
        let none : one_if (handed slot subscription own Unacknowledged) ≡ 0 = ap (λ (b : Bool). cond b 1 0) fails in
        let was = sum_by-cons weight (handed slot subscription own Unacknowledged) hs in
        ⊎_elim
        (λ (is : own ≡ identifier).
        let rest = settles_none hs (λ c. distinct.0 (subst (λ (x : ℕ). Contains (open_identifiers hs) x) (sym is) c)) in
        let first = ap tested (eq-eqb own identifier is) ∙ ap (λ (l : List HandOut). count (handed slot subscription own (Acknowledged code) ∷ l)) rest in
        let now = sum_by-cons weight (handed slot subscription own (Acknowledged code)) hs in
        omega (arith, first, now, was, none))
        (λ (other : own ≢ identifier).
        ⊎_elim
        (λ (same : own ≡ identifier). absurd (other same))
        (λ (c : Contains (open_identifiers hs) identifier).
        let first = ap tested (ne_eqb own identifier other) in
        let now = sum_by-cons weight (handed slot subscription own Unacknowledged) (map (settled identifier code) hs) in
        omega (arith, first, now, was, none, later distinct.1 c))
        (contains_cons_cases own (open_identifiers hs) identifier there))
        (cases_eq own identifier)
    count_first slot subscription own (Acknowledged is) hs distinct there later =
        let weight = one_if in
        omega (arith, sum_by-cons weight (handed slot subscription own (Acknowledged is)) (map (settled identifier code) hs), sum_by-cons weight (handed slot subscription own (Acknowledged is)) hs, later distinct there)
    count_first slot subscription own Discarded hs distinct there later =
        let weight = one_if in
        omega (arith, sum_by-cons weight (handed slot subscription own Discarded) (map (settled identifier code) hs), sum_by-cons weight (handed slot subscription own Discarded) hs, later distinct there)

    pub count_settled : (hs : List HandOut) → AreDistinct (open_identifiers hs) → Contains (open_identifiers hs) identifier
        → count_by (λ (h : HandOut). passes h.outcome) (map (settled identifier code) hs) ≡ count_by (λ (h : HandOut). passes h.outcome) hs + cond (passes (Acknowledged code)) 1 0
    count_settled [] distinct there = absurd (contains_nil identifier there)
    count_settled (h ∷ hs) distinct there = count_first h.slot h.subscription h.identifier h.outcome hs distinct there (λ d c. count_settled hs d c)

-- ---- what is left of a list

rest_is : {A : Type 0} (x y : A) (these those : List A) → x ∷ these ≡ y ∷ those → these ≡ those
rest_is x y these those e = cc

pub drop_cons : {A : Type 0} (n : ℕ) (xs : List A) (y : A) (ys : List A) → drop n xs ≡ y ∷ ys → (n < length xs) × (drop (n + 1) xs ≡ ys)
drop_cons n xs y ys e =
    let long : length xs - n ≡ suc (length ys) = sym (length-drop n xs) ∙ ap length e in
    let within : n < length xs = omega arith in
    (within, rest_is (get_or xs n y) y (drop (n + 1) xs) ys (sym (drop_more xs n y within) ∙ e))

pub drop_none : {A : Type 0} (n : ℕ) (xs : List A) → drop n xs ≡ [] → length xs ≤ n
drop_none n xs e = let long : length xs - n ≡ 0 = sym (length-drop n xs) ∙ ap length e in omega arith
