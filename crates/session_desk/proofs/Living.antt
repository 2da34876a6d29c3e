-- How many rows are lent or parked, after a row is written or taken away.
use Rattle.std.proofs.Common.{◌≡◌, ℕ, ◌+◌, ◌≤◌, Bool, true, false, cond, ◌&&◌, T, List, [], ◌∷◌, length, sum_by, Some, None, refl, sym, ap, ◌∙◌, ⊎_elim, arith}
use Rattle.std.proofs.lemmas.List.Sums.{sum_by-cons}
use Rattle.std.specs.Option.{is_some}
use Rattle.std.specs.Ordering.{nat_cmp, is_eq}
use Rattle.std.specs.declared.cmp.Ordering.{Ordering}
use Rattle.std.specs.declared.cmp.Ordering.TheVariants.{Less, Equal, Greater}
use Rattle.std.specs.Cmp.{nat_cmp_total}
use Rattle.std.specs.FinMap as map
use Rattle.std.specs.FinMap.{get-entries, entries-insert, entries_sorted, len-entries, len-empty, same_map, nat_cmp-IsAntisymmetric}
use Rattle.std.specs.FinMap.Entries.{by_order, is_sorted, length-put}
use Rattle.session_desk.specs.declared.row.Row.{Row}
use Rattle.session_desk.specs.Rows.{Rows, HasRow, is_living}
use Rattle.session_desk.specs.Hands.{living_row, living_in}
use Rattle.std.proofs.lemmas.Bool.{cases_eq}
use Rattle.session_desk.proofs.Seen.{insert_here, insert_other, remove_here, remove_other}
use Rattle.session_desk.proofs.TakenOut.{sum_put}

second : (a b : Bool) → T (a && b) → T b
second true b p = p
second false b p = absurd p

over_by : {X : Type 0} (F : X → ℕ) (k : ℕ) (v b : X) (e : ℕ × X) (es : List (ℕ × X)) → T (is_sorted nat_cmp (e ∷ es)) → map.find nat_cmp k (e ∷ es) ≡ Some b
    → (map.find nat_cmp k es ≡ Some b → sum_by (λ f. F f.1) (map.put nat_cmp k v es) + F b ≡ sum_by (λ f. F f.1) es + F v) → (o : Ordering) → nat_cmp k e.0 ≡ o
    → sum_by (λ f. F f.1) (by_order o ((k, v) ∷ e ∷ es) ((e.0, v) ∷ es) (e ∷ map.put nat_cmp k v es)) + F b ≡ sum_by (λ f. F f.1) (e ∷ es) + F v
over_by F k v b e es sorted has rest Less p =
    let long = length-put nat_cmp nat_cmp_total k v (e ∷ es) sorted in
    let two = ap (λ o. length (by_order o ((k, v) ∷ e ∷ es) ((e.0, v) ∷ es) (e ∷ map.put nat_cmp k v es))) p in
    let one = ap (λ x. cond (is_some x) (length (e ∷ es)) (length (e ∷ es) + 1)) has in
    absurd (omega arith)
over_by {X} F k v b e es sorted has rest Equal p =
    let same : ◌≡◌ {A = X} e.1 b = (let found = sym (ap (λ o. cond (is_eq o) (Some e.1) (map.find nat_cmp k es)) p) ∙ has in cc) in
    let its = ap F same in
    let a = sum_by-cons (λ f. F f.1) (e.0, v) es in
    let c = sum_by-cons (λ f. F f.1) e es in
    omega arith
over_by F k v b e es sorted has rest Greater p =
    let more = rest (sym (ap (λ o. cond (is_eq o) (Some e.1) (map.find nat_cmp k es)) p) ∙ has) in
    let a = sum_by-cons (λ f. F f.1) e (map.put nat_cmp k v es) in
    let c = sum_by-cons (λ f. F f.1) e es in
    omega arith

-- an entry is put in the place of another
sum_over : {X : Type 0} (F : X → ℕ) (k : ℕ) (v b : X) (es : List (ℕ × X)) → T (is_sorted nat_cmp es) → map.find nat_cmp k es ≡ Some b
    → sum_by (λ f. F f.1) (map.put nat_cmp k v es) + F b ≡ sum_by (λ f. F f.1) es + F v
sum_over F k v b [] sorted has = absurd (let e = has in cc)
sum_over F k v b (e ∷ es) sorted has = over_by F k v b e es sorted has (λ rest. sum_over F k v b es (second _ _ sorted) rest) (nat_cmp k e.0) refl

one_at_most : (b : Bool) → cond b 1 0 ≤ 1
one_at_most true = omega arith
one_at_most false = omega arith

at_most : {E P : Type 0} (es : List (ℕ × Row E P)) → sum_by (λ e. living_row e.1) es ≤ length es
at_most [] = omega arith
at_most (e ∷ es) = (let a = sum_by-cons (λ f. living_row f.1) e es in let rest = at_most es in let one = one_at_most (is_living e.1.held_by) in omega arith)

-- there are no more than rows
pub living_within : {E P : Type 0} (rows : Rows E P) → living_in rows ≤ map.len rows
living_within rows = (let less = at_most (map.entries rows) in let n = len-entries rows in omega arith)

pub living_moved : {E P : Type 0} (rows : Rows E P) (k : ℕ) (before after : Row E P) → HasRow rows k before → living_in (map.insert rows k after) + living_row before ≡ living_in rows + living_row after
living_moved rows k before after has =
    let put = ap (sum_by (λ e. living_row e.1)) (entries-insert nat_cmp_total rows k after) in
    let over = sum_over living_row k after before (map.entries rows) (entries_sorted rows) (sym (get-entries rows k) ∙ has) in
    omega arith

pub living_more : {E P : Type 0} (rows : Rows E P) (k : ℕ) (row : Row E P) → map.get rows k ≡ None → living_in (map.insert rows k row) ≡ living_in rows + living_row row
living_more rows k row none =
    let put = ap (sum_by (λ e. living_row e.1)) (entries-insert nat_cmp_total rows k row) in
    let more = sum_put (λ e. living_row e.1) k row (map.entries rows) (sym (get-entries rows k) ∙ none) in
    omega arith

-- a row that is taken away may be put back
back : {E P : Type 0} (rows : Rows E P) (k : ℕ) (row : Row E P) → HasRow rows k row → map.insert (map.remove rows k) k row ≡ rows
back rows k row has = same_map nat_cmp_total nat_cmp-IsAntisymmetric _ _ (λ q.
    ⊎_elim
    (λ (same : q ≡ k). ap (map.get (map.insert (map.remove rows k) k row)) same ∙ insert_here (map.remove rows k) k row ∙ sym has ∙ ap (map.get rows) (sym same))
    (λ (other : q ≡ k → ⊥). insert_other (map.remove rows k) k q row other ∙ remove_other rows k q other)
    (cases_eq q k))

pub living_removed : {E P : Type 0} (rows : Rows E P) (k : ℕ) (row : Row E P) → HasRow rows k row → living_in (map.remove rows k) ≤ living_in rows
living_removed rows k row has =
    let more = living_more (map.remove rows k) k row (remove_here rows k) in
    let same = ap living_in (back rows k row has) in
    omega arith

pub none_living : (E P : Type 0) → living_in (map.empty {X = Row E P} {R = nat_cmp}) ≤ 0
none_living E P = (let less = living_within (map.empty {X = Row E P} {R = nat_cmp}) in let none = len-empty nat_cmp (Row E P) in omega arith)
