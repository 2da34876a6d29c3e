-- Lists of messages: what one more at the end changes.
use Rattle.std.proofs.Common.{◌≡◌, ◌≢◌, ℕ, zero, suc, ◌<◌, ◌⊎◌, inl, inr, ⊎_elim, Bool, true, false, eqb, cond, List, [], ◌∷◌, ◌++◌, length, refl, sym, ap, ◌∙◌, subst, arith, append_assoc, eq-eqb, ne_eqb}
use Rattle.std.specs.Prelude.{filter, map}
use Rattle.std.proofs.lemmas.Bool.{eqb-true}
use Rattle.std.proofs.lemmas.List.{map-append}
use Rattle.std.proofs.lemmas.List.Elements.{filter-append}
use mathlib.Core.Option.{some, some-injective, some-ne-none}
use lib.ListN.{get_elem?}
use Rattle.group_queue.specs.declared.posted.Posted.{Posted}
use Rattle.group_queue.specs.declared.view.Name.{Name}
use Rattle.group_queue.specs.declared.view.Name.TheVariants.{Port, Place, Finisher}
use Rattle.group_queue.specs.Views.{same_name}
use Rattle.group_queue.specs.Past.{Pop, all_of, through, popped_by, AreNumbered}

pub same_name-refl : (name : Name) → same_name name name ≡ true
same_name-refl (Port p) = eq-eqb p p refl
same_name-refl (Place p) = eq-eqb p p refl
same_name-refl Finisher = refl

pub same_name-true : (a b : Name) → same_name a b ≡ true → a ≡ b
same_name-true (Port p) (Port q) e = ap Port (eqb-true p q e)
same_name-true (Port p) (Place q) e = cc
same_name-true (Port p) Finisher e = cc
same_name-true (Place p) (Port q) e = cc
same_name-true (Place p) (Place q) e = ap Place (eqb-true p q e)
same_name-true (Place p) Finisher e = cc
same_name-true Finisher (Port q) e = cc
same_name-true Finisher (Place q) e = cc
same_name-true Finisher Finisher e = refl

false_of : (b : Bool) → b ≢ true → b ≡ false
false_of true ne = absurd (ne refl)
false_of false ne = refl

pub same_name-other : (a b : Name) → a ≢ b → same_name a b ≡ false
same_name-other a b ne = false_of (same_name a b) (λ e. ne (same_name-true a b e))

filter_one : {X : Type 0} (p : X → Bool) (x : X) (b : Bool) → p x ≡ b → filter p (x ∷ []) ≡ cond b (x ∷ []) []
filter_one p x b e = rw e refl

-- one more message through a port
pub through-push : (port : ℕ) (all : List Posted) (x : Posted) → x.job.port ≡ port → through port (all ++ x ∷ []) ≡ through port all ++ x ∷ []
through-push port all x is =
    let p : Posted → Bool = λ posted. eqb posted.job.port port in
    filter-append p all (x ∷ []) ∙ ap (λ l. filter p all ++ l) (filter_one p x true (eq-eqb x.job.port port is))

pub through-other : (port : ℕ) (all : List Posted) (x : Posted) → x.job.port ≢ port → through port (all ++ x ∷ []) ≡ through port all
through-other port all x other =
    let p : Posted → Bool = λ posted. eqb posted.job.port port in
    filter-append p all (x ∷ []) ∙ ap (λ l. filter p all ++ l) (filter_one p x false (ne_eqb x.job.port port other)) ∙ append_nil (filter p all)
  where
    append_nil : (l : List Posted) → l ++ [] ≡ l
    append_nil [] = refl
    append_nil (y ∷ ys) = ap (λ l. y ∷ l) (append_nil ys)

-- one more pop
module _ (past : List Pop) (name : Name) (x : Posted) where
  pop : Pop
  pop = record { by = name; posted = x }

  pub popped-same : popped_by name (past ++ record { by = name; posted = x } ∷ []) ≡ popped_by name past ++ x ∷ []
  popped-same =
      let p : Pop → Bool = λ pop. same_name pop.by name in
      let f : Pop → Posted = λ pop. pop.posted in
      ap (map f) (filter-append p past (record { by = name; posted = x } ∷ []) ∙ ap (λ l. filter p past ++ l) (filter_one p (record { by = name; posted = x }) true (same_name-refl name)))
      ∙ map-append f (filter p past) (record { by = name; posted = x } ∷ [])

  pub popped-other : (other : Name) → other ≢ name → popped_by other (past ++ record { by = name; posted = x } ∷ []) ≡ popped_by other past
  popped-other other ne =
      let p : Pop → Bool = λ pop. same_name pop.by other in
      let f : Pop → Posted = λ pop. pop.posted in
      ap (map f) (filter-append p past (record { by = name; posted = x } ∷ []) ∙ ap (λ l. filter p past ++ l) (filter_one p (record { by = name; posted = x }) false (same_name-other name other (λ e. ne (sym e)))))
      ∙ map-append f (filter p past) [] ∙ append_nil (map f (filter p past))
    where
      append_nil : (l : List Posted) → l ++ [] ≡ l
      append_nil [] = refl
      append_nil (y ∷ ys) = ap (λ l. y ∷ l) (append_nil ys)

-- a pop takes the front of what stands in the queue into the past
pub all_of-pop : (past : List Pop) (name : Name) (x : Posted) (items : List Posted) → all_of (past ++ record { by = name; posted = x } ∷ []) items ≡ all_of past (x ∷ items)
all_of-pop past name x items =
    let f : Pop → Posted = λ pop. pop.posted in
    ap (λ l. l ++ items) (map-append f past (record { by = name; posted = x } ∷ [])) ∙ append_assoc (map f past) (x ∷ []) items

pub all_of-push : (past : List Pop) (items : List Posted) (x : Posted) → all_of past (items ++ x ∷ []) ≡ all_of past items ++ x ∷ []
all_of-push past items x = sym (append_assoc (map (λ (pop : Pop). pop.posted) past) items (x ∷ []))

-- where a list with one more at its end is cut
abbrev pub IsLast : List Posted → Posted → List Posted → Posted → List Posted → Type 0
IsLast all y front x behind = (behind ≡ []) × (x ≡ y) × (front ≡ all)

abbrev pub IsInner : List Posted → Posted → List Posted → Posted → List Posted → Type 0
IsInner all y front x behind = (less : List Posted) × (all ≡ front ++ x ∷ less)

pub cut_of-push : (all : List Posted) (y : Posted) (front : List Posted) (x : Posted) (behind : List Posted) → all ++ y ∷ [] ≡ front ++ x ∷ behind → IsInner all y front x behind ⊎ IsLast all y front x behind
cut_of-push [] y [] x behind e = inr (cc, cc, refl)
cut_of-push [] y (f ∷ []) x behind e = absurd (cc)
cut_of-push [] y (f ∷ (g ∷ front)) x behind e = absurd (cc)
cut_of-push (a ∷ all) y [] x behind e = let is : a ≡ x = cc in inl (all, ap (λ z. z ∷ all) is)
cut_of-push (a ∷ all) y (f ∷ front) x behind e =
    let is : a ≡ f = cc in
    let rest : all ++ y ∷ [] ≡ front ++ x ∷ behind = cc in
    ⊎_elim (λ inner. inl (inner.0, cong2 is inner.1)) (λ last. inr (last.0, last.1, cong2 (sym is) last.2)) (cut_of-push all y front x behind rest)
  where
    cong2 : {b c : Posted} {l m : List Posted} → b ≡ c → l ≡ m → b ∷ l ≡ c ∷ m
    cong2 p q = cc

pub numbered-push : (all : List Posted) (y : Posted) → AreNumbered all → y.job.number ≡ length (through y.job.port all) → y.job.number < 1099511627776 → AreNumbered (all ++ y ∷ [])
numbered-push all y numbered next few = λ front behind x e.
    ⊎_elim (λ inner. numbered front inner.0 x inner.1)
    (λ last.
    let P : Posted × List Posted → Type 0 = λ q. (q.0.job.number ≡ length (through q.0.job.port q.1)) × (q.0.job.number < 1099511627776) in
    subst P (λ i. (sym last.1 i, sym last.2 i)) (next, few))
    (cut_of-push all y front x behind e)

-- an element of a list with one more at its end
pub at_push : {A : Type 0} (l : List A) (a b : A) (j : ℕ) → get_elem? (l ++ a ∷ []) j ≡ some b → ((j < length l) × (get_elem? l j ≡ some b)) ⊎ ((j ≡ length l) × (a ≡ b))
at_push [] a b zero e = inr (refl, some-injective a b e)
at_push [] a b (suc j) e = absurd (some-ne-none b (sym e))
at_push (x ∷ xs) a b zero e = inl (omega arith, e)
at_push (x ∷ xs) a b (suc j) e = ⊎_elim (λ t. let less = t.0 in inl (omega arith, t.1)) (λ t. let is = t.0 in inr (omega arith, t.1)) (at_push xs a b j e)

pub within : {A : Type 0} (l : List A) (i : ℕ) (a : A) → get_elem? l i ≡ some a → i < length l
within [] i a at = absurd (some-ne-none a (sym at))
within (x ∷ xs) zero a at = omega arith
within (x ∷ xs) (suc i) a at = let less = within xs i a at in omega arith
