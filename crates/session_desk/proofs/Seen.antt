-- The rows that a map's entries make, seen as a finite map.
use Rattle.std.proofs.Common.{◌≡◌, ◌≢◌, ◌⊎◌, ℕ, ◌+◌, false, cond, List, [], ◌∷◌, length, Some, None, nat_eq, refl, sym, ap, ◌∙◌, inl, inr, ⊎_elim, arith}
use Rattle.std.specs.Ordering.{nat_cmp, eq_by_cmp}
use Rattle.std.specs.Cmp.{nat_cmp_total, unsigned_ties, nat_eq_equiv}
use Rattle.std.specs.List.{IsDistinct, AllByRecursion}
use Rattle.std.specs.Map.{lookup, set_value, keys_of}
use Rattle.std.specs.Option.{is_some}
use Rattle.std.specs.FinMap as map
use Rattle.std.specs.FinMap.{get-from_entries, get-insert, get-remove, len-insert, len-empty, same_map, nat_cmp-IsAntisymmetric}
use Rattle.std.proofs.lemmas.Bool.{cases_eq, eq-eqb, ne_eqb}
use Rattle.std.proofs.lemmas.Map.{lookup-set_value}

find_is : {X : Type 0} (es : List (ℕ × X)) (q : ℕ) → map.find nat_cmp q es ≡ lookup (nat_eq q) es
find_is [] q = refl
find_is (e ∷ es) q =
    ap (λ b. cond b (Some e.1) (map.find nat_cmp q es)) (sym (unsigned_ties q e.0)) ∙ ap (cond (nat_eq q e.0) (Some e.1)) (find_is es q)

-- a look-up among the entries
pub get_seen : {X : Type 0} (es : List (ℕ × X)) (q : ℕ) → map.get (map.from_entries {R = nat_cmp} es) q ≡ lookup (nat_eq q) es
get_seen es q = get-from_entries nat_cmp_total es q ∙ find_is es q

tie : (q k : ℕ) → eq_by_cmp nat_cmp q k ≡ nat_eq k q
tie q k = sym (unsigned_ties q k) ∙ nat_eq_equiv.symm q k

-- an entry that is put in
pub seen_insert : {X : Type 0} (es fs : List (ℕ × X)) (k : ℕ) (v : X)
    → ((q : ℕ) → lookup (nat_eq q) fs ≡ cond (nat_eq k q) (Some v) (lookup (nat_eq q) es))
    → map.from_entries {R = nat_cmp} fs ≡ map.insert (map.from_entries es) k v
seen_insert es fs k v is = same_map nat_cmp_total nat_cmp-IsAntisymmetric _ _ (λ q.
    get_seen fs q ∙ is q ∙ ap (cond (nat_eq k q) (Some v)) (sym (get_seen es q)) ∙ ap (λ b. cond b (Some v) (map.get (map.from_entries {R = nat_cmp} es) q)) (sym (tie q k))
    ∙ sym (get-insert nat_cmp_total (map.from_entries es) k v q))

-- an entry that is taken out
pub seen_remove : {X : Type 0} (es fs : List (ℕ × X)) (k : ℕ)
    → ((q : ℕ) → lookup (nat_eq q) fs ≡ cond (nat_eq k q) None (lookup (nat_eq q) es))
    → map.from_entries {R = nat_cmp} fs ≡ map.remove (map.from_entries es) k
seen_remove es fs k is = same_map nat_cmp_total nat_cmp-IsAntisymmetric _ _ (λ q.
    get_seen fs q ∙ is q ∙ ap (cond (nat_eq k q) None) (sym (get_seen es q)) ∙ ap (λ b. cond b None (map.get (map.from_entries {R = nat_cmp} es) q)) (sym (tie q k))
    ∙ sym (get-remove nat_cmp_total (map.from_entries es) k q))

pub none_there : {X : Type 0} (k : ℕ) (es : List (ℕ × X)) → AllByRecursion (λ y. nat_eq k y ≡ false) (keys_of es) → lookup (nat_eq k) es ≡ None
none_there k [] all = refl
none_there k (e ∷ es) all = ap (λ b. cond b (Some e.1) (lookup (nat_eq k) es)) all.0 ∙ none_there k es all.1

-- as many rows as entries
pub len_seen : {X : Type 0} (es : List (ℕ × X)) → IsDistinct nat_eq (keys_of es) → map.len (map.from_entries {R = nat_cmp} es) ≡ length es
unfolding IsDistinct
len_seen {X} [] distinct = len-empty nat_cmp X
len_seen (e ∷ es) distinct =
    let none : map.get (map.from_entries {R = nat_cmp} es) e.0 ≡ None = get_seen es e.0 ∙ none_there e.0 es distinct.0 in
    len-insert nat_cmp_total (map.from_entries es) e.0 e.1 ∙ ap (λ o. cond (is_some o) (map.len (map.from_entries {R = nat_cmp} es)) (map.len (map.from_entries {R = nat_cmp} es) + 1)) none
    ∙ (let before = len_seen es distinct.1 in omega arith)

same_some : {X : Type 0} (x y : X) → Some x ≡ Some y → x ≡ y
same_some x y e = cc

-- an entry whose value is written
pub seen_write : {X : Type 0} (es fs : List (ℕ × X)) (k : ℕ) (before after : X) → lookup (nat_eq k) es ≡ Some before → fs ≡ set_value (nat_eq k) es after
    → map.from_entries {R = nat_cmp} fs ≡ map.insert (map.from_entries es) k after
seen_write es fs k before after there written =
    seen_insert es fs k after (λ q. ap (lookup (nat_eq q)) written ∙ lookup-set_value nat_eq_equiv (nat_eq k) (λ x y. nat_eq_equiv.congr k x y) q after es (ap is_some there))

-- a row that is there is found
pub found_row : {X : Type 0} (es : List (ℕ × X)) (k : ℕ) (row : X) → map.get (map.from_entries {R = nat_cmp} es) k ≡ Some row → lookup (nat_eq k) es ≡ Some row
found_row es k row has = sym (get_seen es k) ∙ has

pub never_none : {X : Type 0} (es : List (ℕ × X)) (k : ℕ) (row : X) → map.get (map.from_entries {R = nat_cmp} es) k ≡ Some row → None ≡ lookup (nat_eq k) es → ⊥
never_none es k row has none = let e = found_row es k row has in cc

-- the row that is found is the one that is there
pub found_same : {X : Type 0} (es : List (ℕ × X)) (k : ℕ) (found row : X) → Some found ≡ lookup (nat_eq k) es → map.get (map.from_entries {R = nat_cmp} es) k ≡ Some row → found ≡ row
found_same es k found row is has = same_some found row (is ∙ found_row es k row has)

-- one step on a finite map: what is there after an entry is put in
pub after_insert : {X : Type 0} (m : map.FinMap nat_cmp X) (k q : ℕ) (v row : X) → map.get (map.insert m k v) q ≡ Some row → ((q ≡ k) × (v ≡ row)) ⊎ ((q ≢ k) × (map.get m q ≡ Some row))
after_insert m k q v row has =
    ⊎_elim
    (λ (e : q ≡ k). inl (e, same_some v row (sym (ap (λ b. cond b (Some v) (map.get m q)) (sym (unsigned_ties q k) ∙ eq-eqb q k e)) ∙ sym (get-insert nat_cmp_total m k v q) ∙ has)))
    (λ (ne : q ≡ k → ⊥). inr (ne, sym (ap (λ b. cond b (Some v) (map.get m q)) (sym (unsigned_ties q k) ∙ ne_eqb q k ne)) ∙ sym (get-insert nat_cmp_total m k v q) ∙ has))
    (cases_eq q k)

-- the entry that was put in
pub insert_here : {X : Type 0} (m : map.FinMap nat_cmp X) (k : ℕ) (v : X) → map.get (map.insert m k v) k ≡ Some v
insert_here m k v = get-insert nat_cmp_total m k v k ∙ ap (λ b. cond b (Some v) (map.get m k)) (sym (unsigned_ties k k) ∙ eq-eqb k k refl)

-- and each other
pub insert_other : {X : Type 0} (m : map.FinMap nat_cmp X) (k q : ℕ) (v : X) → (q ≡ k → ⊥) → map.get (map.insert m k v) q ≡ map.get m q
insert_other m k q v ne = get-insert nat_cmp_total m k v q ∙ ap (λ b. cond b (Some v) (map.get m q)) (sym (unsigned_ties q k) ∙ ne_eqb q k ne)

-- after one is taken out
pub after_remove : {X : Type 0} (m : map.FinMap nat_cmp X) (k q : ℕ) (row : X) → map.get (map.remove m k) q ≡ Some row → (q ≢ k) × (map.get m q ≡ Some row)
after_remove m k q row has =
    ⊎_elim
    (λ (e : q ≡ k). absurd (let none = sym (ap (λ b. cond b None (map.get m q)) (sym (unsigned_ties q k) ∙ eq-eqb q k e)) ∙ sym (get-remove nat_cmp_total m k q) ∙ has in cc))
    (λ (ne : q ≡ k → ⊥). (ne, sym (ap (λ b. cond b None (map.get m q)) (sym (unsigned_ties q k) ∙ ne_eqb q k ne)) ∙ sym (get-remove nat_cmp_total m k q) ∙ has))
    (cases_eq q k)

pub remove_here : {X : Type 0} (m : map.FinMap nat_cmp X) (k : ℕ) → map.get (map.remove m k) k ≡ None
remove_here m k = get-remove nat_cmp_total m k k ∙ ap (λ b. cond b None (map.get m k)) (sym (unsigned_ties k k) ∙ eq-eqb k k refl)

pub remove_other : {X : Type 0} (m : map.FinMap nat_cmp X) (k q : ℕ) → (q ≡ k → ⊥) → map.get (map.remove m k) q ≡ map.get m q
remove_other m k q ne = get-remove nat_cmp_total m k q ∙ ap (λ b. cond b None (map.get m q)) (sym (unsigned_ties q k) ∙ ne_eqb q k ne)

pub no_length : {X : Type 0} (es : List X) → length es ≡ 0 → es ≡ []
no_length [] e = refl
no_length (x ∷ es) e = absurd (omega arith)

-- no rows are no entries
pub no_entries : {X : Type 0} (es : List (ℕ × X)) → IsDistinct nat_eq (keys_of es) → map.from_entries {R = nat_cmp} es ≡ map.empty → es ≡ []
no_entries {X} es distinct none = no_length es (sym (len_seen es distinct) ∙ ap map.len none ∙ len-empty nat_cmp X)
