-- A desk's books, from what it keeps.
use Rattle.std.proofs.Common.{◌≡◌, ℕ, ◌+◌, ◌-◌, ◌<◌, ◌≤◌, Bool, true, false, cond, List, Option, Some, None, sym, ap, ◌∙◌, subst, ⊎_elim, arith}
use Rattle.std.specs.Option.{is_some}
use Rattle.std.specs.Ordering.{nat_cmp}
use Rattle.std.specs.Cmp.{nat_cmp_total}
use Rattle.std.specs.FinMap as map
use Rattle.std.specs.FinMap.{len-insert, len-remove}
use Rattle.session_desk.specs.declared.session.Session.{Session}
use Rattle.session_desk.specs.declared.row.Row.{Row}
use Rattle.session_desk.specs.declared.row.Holder.{Holder}
use Rattle.session_desk.specs.declared.row.Holder.TheVariants.{Parked, Kept}
use Rattle.session_desk.specs.Rows.{Rows, HasRow, NoRow, Register, most_rows, away, IsKept, IsOverdue, IsLentIn, IsAwayIn}
use Rattle.session_desk.specs.Sessions.{Who}
use Rattle.session_desk.specs.Sweeping.{Sweeps, HandsOut}
use Rattle.session_desk.specs.Books.{Books}
use Rattle.session_desk.specs.Layout.{AreFew}

abbrev pub booked : {E P : Type 0} → Register E P → ℕ → List (Option ℕ) → List Bool → List (Option P) → Books E P
booked r assigned waits kicked free = record { rows = r.rows; made = r.made; assigned = assigned; waits = waits; kicked = kicked; free = free }

-- a row that is written anew is no further one
pub len_same : {X : Type 0} (m : map.FinMap nat_cmp X) (k : ℕ) (v after : X) → map.get m k ≡ Some v → map.len (map.insert m k after) ≡ map.len m
len_same m k v after has = len-insert nat_cmp_total m k after ∙ ap (λ o. cond (is_some o) (map.len m) (map.len m + 1)) has

pub len_more : {X : Type 0} (m : map.FinMap nat_cmp X) (k : ℕ) (v : X) → map.get m k ≡ None → map.len (map.insert m k v) ≡ map.len m + 1
len_more m k v none = len-insert nat_cmp_total m k v ∙ ap (λ o. cond (is_some o) (map.len m) (map.len m + 1)) none

pub few_moved : {E P : Type 0} (rows : Rows E P) (assigned n : ℕ) (row after : Row E P) → AreFew rows assigned → HasRow rows n row → AreFew (map.insert rows n after) assigned
few_moved rows assigned n row after few has = record { few = (let same = len_same rows n row after has in let less = few.few in omega arith); names = few.names }

pub few_removed : {E P : Type 0} (rows : Rows E P) (assigned n : ℕ) (row : Row E P) → AreFew rows assigned → HasRow rows n row → AreFew (map.remove rows n) assigned
few_removed rows assigned n row few has =
    record { few = (let same = len-remove nat_cmp_total rows n ∙ ap (λ o. cond (is_some o) (map.len rows - 1) (map.len rows)) has in let less = few.few in omega arith); names = few.names }

few_handed : {E P : Type 0} (old new : Rows E P) (assigned : ℕ) (IsSo : Row E P → Type 0) (stands : Holder E P) → AreFew old assigned → HandsOut old IsSo stands new → AreFew new assigned
few_handed old new assigned IsSo stands few h = subst (λ r. AreFew r assigned) (sym h.after) (few_moved old assigned h.number h.oldest.row (away h.oldest.row.client) few h.oldest.has)

pub few_swept : {E P : Type 0} (old new : Rows E P) (now assigned : ℕ) (answer : Option (Session E P)) → AreFew old assigned → Sweeps old now answer new → AreFew new assigned
few_swept old new now assigned None few swept = subst (λ r. AreFew r assigned) (sym swept.2) few
few_swept {E} {P} old new now assigned (Some session) few swept =
    ⊎_elim
    (λ (h : HandsOut old IsKept (Kept session) new). few_handed old new assigned IsKept (Kept session) few h)
    (λ (h : NoRow old IsKept × HandsOut old (IsOverdue now) (Parked session) new). few_handed old new assigned (IsOverdue now) (Parked session) few h.1)
    swept

-- the same, said of rows that are equal
abbrev pub lent_in : {E P : Type 0} (rows other : Rows E P) (session : Session E P) → rows ≡ other → IsLentIn rows session → IsLentIn other session
lent_in rows other session same lent =
    record { row = lent.row; connection = lent.connection; is_row = record { has = sym (ap (λ r. map.get r session.identity.number) same) ∙ lent.is_row.has; its = lent.is_row.its; stands = lent.is_row.stands } }

abbrev pub away_in : {E P : Type 0} (rows other : Rows E P) (session : Session E P) → rows ≡ other → IsAwayIn rows session → IsAwayIn other session
away_in rows other session same gone =
    record { row = gone.row; is_row = record { has = sym (ap (λ r. map.get r session.identity.number) same) ∙ gone.is_row.has; its = gone.is_row.its; stands = gone.is_row.stands } }

at_most_one_more : (b : Bool) (n : ℕ) → cond b n (n + 1) ≤ n + 1
at_most_one_more true n = omega arith
at_most_one_more false n = omega arith

pub few_more : {E P : Type 0} (rows : Rows E P) (assigned n : ℕ) (row : Row E P) → AreFew rows assigned → map.len rows < most_rows → AreFew (map.insert rows n row) assigned
few_more rows assigned n row few room =
    record { few = (let is = len-insert nat_cmp_total rows n row in let one = at_most_one_more (is_some (map.get rows n)) (map.len rows) in omega arith); names = few.names }

-- who the next session of this client is
abbrev pub next_of : {E P : Type 0} → Books E P → List ℕ → Who
next_of b client = record { number = b.made; client = client }

pub len_removed : {X : Type 0} (m : map.FinMap nat_cmp X) (k : ℕ) (v : X) → map.get m k ≡ Some v → map.len (map.remove m k) ≡ map.len m - 1
len_removed m k v has = len-remove nat_cmp_total m k ∙ ap (λ o. cond (is_some o) (map.len m - 1) (map.len m)) has
