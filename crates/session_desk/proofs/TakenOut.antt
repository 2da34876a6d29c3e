-- What is taken out of the rows, one after the other.
use Rattle.std.proofs.Common.{◌≡◌, ℕ, ◌+◌, ◌<◌, List, nat_eq, ⊎_elim, [], ◌∷◌, ◌++◌, sum_by, cond, Some, None, refl, sym, ap, ◌∙◌, arith}
use Rattle.std.proofs.lemmas.List.Sums.{sum_by_push, sum_by-append, sum_by-cons}
use Rattle.std.specs.Ordering.{nat_cmp, is_eq}
use Rattle.std.specs.declared.cmp.Ordering.{Ordering}
use Rattle.std.specs.declared.cmp.Ordering.TheVariants.{Less, Equal, Greater}
use Rattle.std.specs.Cmp.{nat_cmp_total}
use Rattle.std.specs.List.{IsDistinct}
use Rattle.std.specs.Map.{keys_of}
use Rattle.std.specs.FinMap as map
use Rattle.std.specs.FinMap.{get-entries, entries-insert, len-entries, len-empty}
use Rattle.std.specs.FinMap.Entries.{by_order}
use Rattle.std.proofs.lemmas.Bool.{cases_eq}
use Rattle.session_desk.proofs.Seen.{get_seen, none_there, no_length}

-- one row less, and what was in it
pub taken_row : {X A : Type 0} (F : X → ℕ) (G : A → ℕ) (es rest : List X) (e : X) (before after more : List A) (all : ℕ) → es ≡ rest ++ e ∷ [] → after ≡ before ++ more → F e ≡ sum_by G more
    → sum_by G before + sum_by F es ≡ all → sum_by G after + sum_by F rest ≡ all
taken_row F G es rest e before after more all split grown is kept =
    let a = ap (sum_by F) split ∙ sum_by_push F rest e in
    let b = ap (sum_by G) grown ∙ sum_by-append G before more in
    omega arith

pub none_left : (n : ℕ) → (0 < n → ⊥) → n ≡ 0
none_left n none = ⊎_elim (λ (e : n ≡ 0). e) (λ (ne : n ≡ 0 → ⊥). absurd (none (omega arith))) (cases_eq n 0)

put_by : {X : Type 0} (F : ℕ × X → ℕ) (k : ℕ) (v : X) (e : ℕ × X) (es : List (ℕ × X)) → map.find nat_cmp k (e ∷ es) ≡ None
    → (map.find nat_cmp k es ≡ None → sum_by F (map.put nat_cmp k v es) ≡ F (k, v) + sum_by F es) → (o : Ordering) → nat_cmp k e.0 ≡ o
    → sum_by F (by_order o ((k, v) ∷ e ∷ es) ((e.0, v) ∷ es) (e ∷ map.put nat_cmp k v es)) ≡ F (k, v) + sum_by F (e ∷ es)
put_by F k v e es none more Less p = sum_by-cons F (k, v) (e ∷ es)
put_by F k v e es none more Equal p = absurd (let found = ap (λ o. cond (is_eq o) (Some e.1) (map.find nat_cmp k es)) p in cc)
put_by F k v e es none more Greater p =
    let rest = more (sym (ap (λ o. cond (is_eq o) (Some e.1) (map.find nat_cmp k es)) p) ∙ none) in
    let a = sum_by-cons F e (map.put nat_cmp k v es) in
    let b = sum_by-cons F e es in
    omega arith

-- an entry with a new key is put among the others
pub sum_put : {X : Type 0} (F : ℕ × X → ℕ) (k : ℕ) (v : X) (es : List (ℕ × X)) → map.find nat_cmp k es ≡ None → sum_by F (map.put nat_cmp k v es) ≡ F (k, v) + sum_by F es
sum_put F k v [] none = omega arith
sum_put {X} F k v (e ∷ es) none = put_by F k v e es none (λ p. sum_put F k v es p) (nat_cmp k e.0) refl

entries-empty : {X : Type 0} → map.entries (map.empty {X = X} {R = nat_cmp}) ≡ []
entries-empty {X} = no_length (map.entries map.empty) (sym (len-entries (map.empty {X = X} {R = nat_cmp})) ∙ len-empty nat_cmp X)

-- a sum over the rows, by entries or by number
pub sum_seen : {X : Type 0} (F : ℕ × X → ℕ) (es : List (ℕ × X)) → IsDistinct nat_eq (keys_of es) → sum_by F (map.entries (map.from_entries {R = nat_cmp} es)) ≡ sum_by F es
unfolding IsDistinct
sum_seen F [] distinct = ap (sum_by F) entries-empty
sum_seen F (e ∷ es) distinct =
    let m = map.from_entries {R = nat_cmp} es in
    let none = sym (get-entries m e.0) ∙ get_seen es e.0 ∙ none_there e.0 es distinct.0 in
    let put = ap (sum_by F) (entries-insert nat_cmp_total m e.0 e.1) ∙ sum_put F e.0 e.1 (map.entries m) none in
    let rest = sum_seen F es distinct.1 in
    let cons = sum_by-cons F e es in
    omega arith
