-- Identifiers of entries: which are there, that they differ, and what is left without one.
use Rattle.std.proofs.Common.{◌≡◌, ◌≢◌, ◌⊎◌, ℕ, zero, suc, ◌<◌, ◌≤◌, ◌==◌, not, Bool, true, false, cond, List, [], ◌∷◌, ◌++◌, map, length, slice_index_or, Contains, All, refl, sym, ap, ◌∙◌, subst, inl, inr, ⊎_elim, arith, eq-eqb, ne_eqb}
use Rattle.std.proofs.lemmas.Bool.{cases_eq}
use Rattle.std.proofs.lemmas.List.{length-map, get_or-map, get_or_default}
use Rattle.std.proofs.lemmas.List.Elements.{Contains-push_cases as contains_push_cases, Contains-append_left, Contains-append_right, Contains-get_or}
use Rattle.std.specs.List.{remove, HoldsAt}
use Rattle.member_window.specs.Identifiers.{identifiers, entries_without, identifiers_without, AreDistinct}

pub contains_here : {X : Type 0} (x : X) (xs : List X) → Contains (x ∷ xs) x
contains_here x xs = (0, omega arith, refl)

pub contains_there : {X : Type 0} (y : X) (xs : List X) (x : X) → Contains xs x → Contains (y ∷ xs) x
contains_there y xs x h = (suc h.0, omega arith, h.2)

cons_cases_at : {X : Type 0} (y : X) (ys : List X) (x : X) (k : ℕ) → k < length (y ∷ ys) → slice_index_or (y ∷ ys) k x ≡ x → (y ≡ x) ⊎ Contains ys x
cons_cases_at y ys x zero lt at = inl at
cons_cases_at y ys x (suc k) lt at = inr (k, omega arith, at)

pub contains_cons_cases : {X : Type 0} (y : X) (ys : List X) (x : X) → Contains (y ∷ ys) x → (y ≡ x) ⊎ Contains ys x
contains_cons_cases y ys x h = cons_cases_at y ys x h.0 h.1 h.2

pub contains_nil : {X : Type 0} (x : X) → ¬ Contains [] x
contains_nil x h = absurd (omega (arith, h.1))

-- what `identifiers_without` leaves
without_cons_same : (k j : ℕ) (js : List ℕ) → j ≡ k → identifiers_without k (j ∷ js) ≡ identifiers_without k js
without_cons_same k j js e = ap (λ b. cond (not b) (j ∷ identifiers_without k js) (identifiers_without k js)) (eq-eqb j k e)

without_cons_other : (k j : ℕ) (js : List ℕ) → j ≢ k → identifiers_without k (j ∷ js) ≡ j ∷ identifiers_without k js
without_cons_other k j js ne = ap (λ b. cond (not b) (j ∷ identifiers_without k js) (identifiers_without k js)) (ne_eqb j k ne)

pub contains_without : (k : ℕ) (js : List ℕ) (x : ℕ) → Contains js x → x ≢ k → Contains (identifiers_without k js) x
contains_without k [] x h ne = absurd (contains_nil x h)
contains_without k (j ∷ js) x h ne =
    ⊎_elim
    (λ (same : j ≡ x). subst (λ (xs : List ℕ). Contains xs x) (sym (without_cons_other k j js (λ e. ne (sym same ∙ e)))) (subst (λ (y : ℕ). Contains (j ∷ identifiers_without k js) y) same (contains_here j (identifiers_without k js))))
    (λ (later : Contains js x).
    ⊎_elim
    (λ (is : j ≡ k). subst (λ (xs : List ℕ). Contains xs x) (sym (without_cons_same k j js is)) (contains_without k js x later ne))
    (λ (other : j ≢ k). subst (λ (xs : List ℕ). Contains xs x) (sym (without_cons_other k j js other)) (contains_there j (identifiers_without k js) x (contains_without k js x later ne)))
    (cases_eq j k))
    (contains_cons_cases j js x h)

pub contained_without : (k : ℕ) (js : List ℕ) (x : ℕ) → Contains (identifiers_without k js) x → Contains js x × (x ≢ k)
contained_without k [] x h = absurd (contains_nil x h)
contained_without k (j ∷ js) x h =
    ⊎_elim
    (λ (is : j ≡ k). let rest = contained_without k js x (subst (λ (xs : List ℕ). Contains xs x) (without_cons_same k j js is) h) in (contains_there j js x rest.0, rest.1))
    (λ (other : j ≢ k).
    ⊎_elim
    (λ (same : j ≡ x). (subst (λ (y : ℕ). Contains (j ∷ js) y) same (contains_here j js), λ e. other (same ∙ e)))
    (λ (later : Contains (identifiers_without k js) x). let rest = contained_without k js x later in (contains_there j js x rest.0, rest.1))
    (contains_cons_cases j (identifiers_without k js) x (subst (λ (xs : List ℕ). Contains xs x) (without_cons_other k j js other) h)))
    (cases_eq j k)

pub length-without : (k : ℕ) (js : List ℕ) → length (identifiers_without k js) ≤ length js
length-without k [] = omega arith
length-without k (j ∷ js) =
    let rest = length-without k js in
    ⊎_elim
    (λ (is : j ≡ k). let e = ap length (without_cons_same k j js is) in omega arith)
    (λ (other : j ≢ k). let e = ap length (without_cons_other k j js other) in omega arith)
    (cases_eq j k)

pub length-without_lt : (k : ℕ) (js : List ℕ) → Contains js k → length (identifiers_without k js) < length js
length-without_lt k [] h = absurd (contains_nil k h)
length-without_lt k (j ∷ js) h =
    ⊎_elim
    (λ (is : j ≡ k). let e = ap length (without_cons_same k j js is) in let rest = length-without k js in omega arith)
    (λ (other : j ≢ k).
    ⊎_elim
    (λ (same : j ≡ k). absurd (other same))
    (λ (later : Contains js k). let e = ap length (without_cons_other k j js other) in let rest = length-without_lt k js later in omega arith)
    (contains_cons_cases j js k h))
    (cases_eq j k)

-- a list that has every number from 1 to n has n at least
pub pigeonhole : (n : ℕ) (js : List ℕ) → ((k : ℕ) → 1 ≤ k → k ≤ n → Contains js k) → n ≤ length js
pigeonhole zero js all = omega arith
pigeonhole (suc n) js all =
    let fewer = length-without_lt (suc n) js (all (suc n) (omega arith) (omega arith)) in
    let rest = pigeonhole n (identifiers_without (suc n) js) (λ k low high. contains_without (suc n) js k (all k low (omega arith)) (λ e. absurd (omega (arith, e)))) in
    omega arith

-- distinct identifiers
pub distinct_without : (k : ℕ) (js : List ℕ) → AreDistinct js → AreDistinct (identifiers_without k js)
distinct_without k [] h = tt
distinct_without k (j ∷ js) h =
    ⊎_elim
    (λ (is : j ≡ k). subst AreDistinct (sym (without_cons_same k j js is)) (distinct_without k js h.1))
    (λ (other : j ≢ k). subst AreDistinct (sym (without_cons_other k j js other)) ((λ c. h.0 (contained_without k js j c).0), distinct_without k js h.1))
    (cases_eq j k)

pub distinct_push : (js : List ℕ) (x : ℕ) → AreDistinct js → ¬ Contains js x → AreDistinct (js ++ x ∷ [])
distinct_push [] x h free = ((λ c. absurd (contains_nil x c)), tt)
distinct_push (j ∷ js) x h free = (
  λ c. not_there (cases c),
  distinct_push js x h.1 (λ c. free (contains_there j js x c)),
)
  where
    cases : Contains (js ++ x ∷ []) j → Contains js j ⊎ (x ≡ j)
    cases c = contains_push_cases js x j c

    not_there : Contains js j ⊎ (x ≡ j) → ⊥
    not_there w = ⊎_elim (λ (in' : Contains js j). h.0 in') (λ (same : x ≡ j). free (subst (λ (y : ℕ). Contains (j ∷ js) y) (sym same) (contains_here j js))) w

pub distinct_apart : (before : List ℕ) (x : ℕ) (behind : List ℕ) → AreDistinct (before ++ x ∷ behind) → ¬ Contains before x
distinct_apart [] x behind h = contains_nil x
distinct_apart (j ∷ before) x behind h =
    λ c. ⊎_elim
    (λ (same : j ≡ x). h.0 (subst (λ (y : ℕ). Contains (before ++ x ∷ behind) y) (sym same) (Contains-append_right before (x ∷ behind) x (contains_here x behind))))
    (λ (later : Contains before x). distinct_apart before x behind h.1 later)
    (contains_cons_cases j before x c)

-- entries
pub identifiers-without : {T : Type 0} (k : ℕ) (es : List (ℕ × T)) → identifiers (entries_without k es) ≡ identifiers_without k (identifiers es)
identifiers-without k [] = refl
identifiers-without {T} k (e ∷ es) =
    map-cond (not (e.0 == k)) e (entries_without k es) ∙ ap (λ js. cond (not (e.0 == k)) (e.0 ∷ js) js) (identifiers-without k es)
  where
    map-cond : (b : Bool) (x : ℕ × T) (xs : List (ℕ × T)) → identifiers (cond b (x ∷ xs) xs) ≡ cond b (x.0 ∷ identifiers xs) (identifiers xs)
    map-cond true x xs = refl
    map-cond false x xs = refl

pub length-entries_without : {T : Type 0} (k : ℕ) (es : List (ℕ × T)) → length (entries_without k es) ≤ length es
length-entries_without {T} k es =
    let fewer = length-without k (identifiers es) in
    let same = ap length (identifiers-without k es) in
    omega (arith, fewer, same, length-map es (λ (e : ℕ × T). e.0), length-map (entries_without k es) (λ (e : ℕ × T). e.0))

-- each entry's identifier is among the identifiers
pub own_identifiers : {T : Type 0} (es : List (ℕ × T)) → All (λ entry. Contains (identifiers es) entry.0) es
own_identifiers {T} es =
    λ k d lt.
    let f : ℕ × T → ℕ = λ e. e.0 in
    let long : length (map f es) ≡ length es = length-map es f in
    subst (λ (x : ℕ). Contains (map f es) x) (get_or-map f es k d d.0 lt) (Contains-get_or (map f es) k d.0 (omega arith))

pub contains_identifier : {T : Type 0} (es : List (ℕ × T)) (k : ℕ) (item : T) → Contains es (k, item) → Contains (identifiers es) k
contains_identifier {T} es k item h =
    let f : ℕ × T → ℕ = λ e. e.0 in
    let long : length (map f es) ≡ length es = length-map es f in
    subst (λ (x : ℕ). Contains (map f es) x) (get_or-map f es h.0 (k, item) k h.1 ∙ ap f h.2) (Contains-get_or (map f es) h.0 k (omega (arith, h.1)))

-- where an entry was found by its identifier
pub held_there : {T : Type 0} (es : List (ℕ × T)) (place : ℕ) (k : ℕ) → place < length es → HoldsAt (λ entry. entry.0 ≡ k) es place → (e : ℕ × T) → e ≡ slice_index_or es place e → Contains es (k, e.1)
held_there {T} es place k lt at e read =
    let same : e ≡ (k, e.1) = λ i. ((ap (λ (x : ℕ × T). x.0) read ∙ at e) i, e.1) in
    (place, lt, get_or_default es place (k, e.1) e lt ∙ sym read ∙ same)

pub found_identifier : {T : Type 0} (es : List (ℕ × T)) (place k : ℕ) → place < length es → HoldsAt (λ entry. entry.0 ≡ k) es place → Contains (identifiers es) k
found_identifier [] place k lt at = absurd (omega arith)
found_identifier {T} (e ∷ es) place k lt at =
    let x = slice_index_or (e ∷ es) place e in
    let read : x ≡ slice_index_or (e ∷ es) place x = get_or_default (e ∷ es) place e x lt in
    contains_identifier (e ∷ es) k x.1 (held_there (e ∷ es) place k lt at x read)

-- what is left without an entry
pub without_absent : {T : Type 0} (k : ℕ) (es : List (ℕ × T)) → ¬ Contains (identifiers es) k → entries_without k es ≡ es
without_absent k [] absent = refl
without_absent k (e ∷ es) absent =
    let other : e.0 ≢ k = λ same. absent (subst (λ x. Contains (e.0 ∷ identifiers es) x) same (contains_here e.0 (identifiers es))) in
    ap (λ b. cond (not b) (e ∷ entries_without k es) (entries_without k es)) (ne_eqb e.0 k other) ∙ ap (λ xs. e ∷ xs) (without_absent k es (λ c. absent (contains_there e.0 (identifiers es) k c)))

pub without_found : {T : Type 0} (k : ℕ) (es : List (ℕ × T)) (place : ℕ) → AreDistinct (identifiers es) → place < length es → HoldsAt (λ entry. entry.0 ≡ k) es place → remove es place ≡ entries_without k es
without_found k [] place distinct lt at = absurd (omega arith)
without_found k (e ∷ es) zero distinct lt at =
    let same : e.0 ≡ k = at e in
    sym (ap (λ b. cond (not b) (e ∷ entries_without k es) (entries_without k es)) (eq-eqb e.0 k same) ∙ without_absent k es (λ c. distinct.0 (subst (λ x. Contains (identifiers es) x) (sym same) c)))
without_found {T} k (e ∷ es) (suc place) distinct lt at =
    let later : Contains (identifiers es) k = found_identifier es place k (omega arith) at in
    let other : e.0 ≢ k = λ same. distinct.0 (subst (λ x. Contains (identifiers es) x) (sym same) later) in
    ap (λ xs. e ∷ xs) (without_found k es place distinct.1 (omega arith) at) ∙ sym (ap (λ b. cond (not b) (e ∷ entries_without k es) (entries_without k es)) (ne_eqb e.0 k other))

-- two parts of distinct identifiers
pub distinct_left : (xs ys : List ℕ) → AreDistinct (xs ++ ys) → AreDistinct xs
distinct_left [] ys h = tt
distinct_left (x ∷ xs) ys h = ((λ c. h.0 (Contains-append_left xs ys x c)), distinct_left xs ys h.1)

pub distinct_right : (xs ys : List ℕ) → AreDistinct (xs ++ ys) → AreDistinct ys
distinct_right [] ys h = h
distinct_right (x ∷ xs) ys h = distinct_right xs ys h.1

pub distinct_disjoint : (xs ys : List ℕ) (k : ℕ) → AreDistinct (xs ++ ys) → Contains xs k → ¬ Contains ys k
distinct_disjoint [] ys k h left right = contains_nil k left
distinct_disjoint (x ∷ xs) ys k h left right =
    ⊎_elim
    (λ (same : x ≡ k). h.0 (Contains-append_right xs ys x (subst (λ (y : ℕ). Contains ys y) (sym same) right)))
    (λ (later : Contains xs k). distinct_disjoint xs ys k h.1 later right)
    (contains_cons_cases x xs k left)
