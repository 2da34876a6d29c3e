-- How ports are dealt to workers and how places get a name, one by one.
use Rattle.std.proofs.Common.{◌≡◌, ℕ, suc, ◌+◌, List, [], ◌∷◌, ◌++◌, length, length-append, append_assoc, slice_get, Some, All, refl, sym, ap, ◌∙◌, subst, arith}
use Rattle.std.specs.Prelude.{sum_by}
use Rattle.std.specs.Global.{Vec}
use Rattle.std.proofs.lemmas.List.Elements.{All-append, All-head, All-nil, All-pop, All-push, All-tail}
use Rattle.std.proofs.lemmas.List.Sums.{sum_by-append, sum_by-cons}
use Rattle.group_queue.specs.Ports.{GroupId, PortState}
use Rattle.group_queue.specs.Places.{PlaceState}
use Rattle.broker_groups.specs.Brokers.{IsBrokerPort}
use Rattle.broker_groups.specs.Naming.{AreRows, IsHand, in_a_row}
use Rattle.broker_groups.proofs.Rows.{each_more}

-- a list that has one more
pub one_longer : {X : Type 0} (old new : List X) (x : X) → new ≡ old ++ x ∷ [] → length new ≡ length old + 1
one_longer old new x is = ap length is ∙ length-append old (x ∷ [])

pub worth_more : {X : Type 0} (f : X → ℕ) (old new : List X) (x : X) → new ≡ old ++ x ∷ [] → sum_by f new ≡ sum_by f old + f x
worth_more f old new x is =
    let none : sum_by f [] ≡ 0 = refl in
    ap (sum_by f) is ∙ omega (arith, sum_by-append f old (x ∷ []), sum_by-cons f x [], none)

pub popped : {X : Type 0} (P : X → Type 0) (old new : List X) (x : X) → old ≡ new ++ x ∷ [] → All P old → All P new × P x
popped P old new x is all = All-pop P old new (Some x) is all

pub all_more : {X : Type 0} (P : X → Type 0) (old new : List X) (x : X) → new ≡ old ++ x ∷ [] → All P old → P x → All P new
all_more P old new x is all here = subst (All P) (sym is) (All-push P old x all here)

-- a worker has one port more
pub hand_more : (group : ℕ → GroupId) (count : ℕ) (old new : Vec PortState) (port : PortState) → IsHand group count old → IsBrokerPort group count port → new.items ≡ old.items ++ port ∷ [] → IsHand group (count + 1) new
hand_more group count old new port hand of is = record {
  many = omega (arith, hand.many, one_longer old.items new.items port is);
  each = λ slot other there. each_more (λ k (p : PortState). IsBrokerPort group k p) old.items port count hand.many of hand.each slot other (subst (λ l. slice_get l slot ≡ Some other) is there);
}

-- the first of some rows, and the others
pub first_row : (group : ℕ → GroupId) (workers slot : ℕ) (rows rest : List (Vec PortState)) (row : Vec PortState) → AreRows group workers slot rows → rows ≡ row ∷ rest → (length row.items ≡ workers) × All (IsBrokerPort group slot) row.items
first_row group workers slot rows rest row are is =
    let at : slice_get rows 0 ≡ Some row = ap (λ l. slice_get l 0) is in
    let none : slot + 0 ≡ slot = omega arith in
    (are.many 0 row at, subst (λ n. All (IsBrokerPort group n) row.items) none (are.its 0 row at))

pub other_rows : (group : ℕ → GroupId) (workers slot : ℕ) (rows rest : List (Vec PortState)) (row : Vec PortState) → AreRows group workers slot rows → rows ≡ row ∷ rest → AreRows group workers (slot + 1) rest
other_rows group workers slot rows rest row are is = record {
  many = λ k other there. are.many (suc k) other (at k other there);
  its = λ k other there. subst (λ n. All (IsBrokerPort group n) other.items) (same k) (are.its (suc k) other (at k other there));
}
  where
    at : (k : ℕ) (other : Vec PortState) → slice_get rest k ≡ Some other → slice_get rows (suc k) ≡ Some other
    at k other there = ap (λ l. slice_get l (suc k)) is ∙ there

    same : (k : ℕ) → slot + suc k ≡ slot + 1 + k
    same k = omega arith

-- what is in front of a row
pub one_more : {X : Type 0} (old new rest all whole : List X) (x : X) → new ≡ old ++ x ∷ [] → all ≡ x ∷ rest → old ++ all ≡ whole → new ++ rest ≡ whole
one_more old new rest all whole x is next was = ap (λ l. l ++ rest) is ∙ (append_assoc old (x ∷ []) rest ∙ (ap (λ l. old ++ l) (sym next) ∙ was))

pub row_more : (old new whole : List PlaceState) (rows rest : List (Vec PlaceState)) (row : Vec PlaceState) → new ≡ old ++ row.items → rows ≡ row ∷ rest → old ++ in_a_row rows ≡ whole → new ++ in_a_row rest ≡ whole
row_more old new whole rows rest row is next was =
    ap (λ l. l ++ in_a_row rest) is ∙ (append_assoc old row.items (in_a_row rest) ∙ (ap (λ l. old ++ in_a_row l) (sym next) ∙ was))

-- what holds of each place of each row
pub all_in_a_row : (P : PlaceState → Type 0) (rows : List (Vec PlaceState)) → All (λ (row : Vec PlaceState). All P row.items) rows → All P (in_a_row rows)
all_in_a_row P [] all = All-nil P
all_in_a_row P (row ∷ rows) all =
    let Q : Vec PlaceState → Type 0 = λ r. All P r.items in
    All-append P row.items (in_a_row rows) (All-head Q row rows all) (all_in_a_row P rows (All-tail Q row rows all))
