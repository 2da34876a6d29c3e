-- What each step on the rows keeps.
use Rattle.std.proofs.Common.{◌≡◌, ◌≢◌, ℕ, ◌+◌, ◌≤◌, Bool, true, false, cond, List, [], Option, Some, None, nat_eq, refl, sym, ap, ◌∙◌, subst, ⊎_elim, arith}
use Rattle.std.specs.Ordering.{nat_cmp}
use Rattle.std.specs.Cmp.Lexicographic.{pointwise, bytes_decides}
use Rattle.std.specs.FinMap as map
use Rattle.std.proofs.lemmas.Bool.{cases_Bool, cases_eq, false≢true}
use Rattle.session_desk.specs.declared.session.Session.{Session}
use Rattle.session_desk.specs.declared.row.Row.{Row}
use Rattle.session_desk.specs.declared.row.Holder.TheVariants.{Lent, Parked, Kept, Away}
use Rattle.session_desk.specs.Sessions.{Who, IsOver}
use Rattle.session_desk.specs.Rows.{Rows, HasRow, NoneLivesAs, is_living, session_in, IsKept, IsOverdue, with_holder, with_wait, away, new_row, Register}
use Rattle.std.specs.FinMap.{get-empty}
use Rattle.session_desk.specs.Layout.{AreKept, number_at, seen}
use Rattle.session_desk.proofs.Seen.{after_insert, insert_here, insert_other, after_remove, remove_other}

abbrev At : Type 0
At = List ℕ → Option ℕ

one_row : {E P : Type 0} (rows : Rows E P) (k : ℕ) (a b : Row E P) → HasRow rows k a → HasRow rows k b → a ≡ b
one_row rows k a b ha hb = cc

pub same_who : (k n : ℕ) (c d : List ℕ) → k ≡ n → c ≡ d → (let who : Who = record { number = k; client = c } in who) ≡ record { number = n; client = d }
same_who k n c d e f = λ i. record { number = e i; client = f i }

-- a session changes hands, and stays its client's or an ending one
pub kept_exchange : {E P : Type 0} (rows : Rows E P) (at : At) (made soonest sooner k : ℕ) (before after : Row E P)
    → AreKept rows at made soonest → HasRow rows k before → after.client ≡ before.client → is_living after.held_by ≡ is_living before.held_by
    → ((session : Session E P) → session_in after.held_by ≡ Some session → session.identity ≡ record { number = k; client = after.client })
    → sooner ≤ soonest → (IsKept after → sooner ≡ 0) → ((now : ℕ) → IsOverdue now after → sooner ≤ now)
    → AreKept (map.insert rows k after) at made sooner
kept_exchange rows at made soonest sooner k before after kept has client living own less zero due =
    record {
      found = λ c n leads.
          let f = kept.found c n leads in
          ⊎_elim
          (λ (e : n ≡ k). (
          let same = one_row rows k f.0 before (subst (λ n. HasRow rows n f.0) e f.1) has in
          (after, subst (λ n. HasRow (map.insert rows k after) n after) (sym e) (insert_here rows k after), record { its = client ∙ sym (ap (λ r. r.client) same) ∙ f.2.its; living = living ∙ sym (ap (λ r. is_living r.held_by) same) ∙ f.2.living })
          ))
          (λ (ne : n ≡ k → ⊥). (f.0, insert_other rows k n after ne ∙ f.1, f.2))
          (cases_eq n k);
      listed = λ n row there lives.
          ⊎_elim
          (λ (here : (n ≡ k) × (after ≡ row)).
          ap at (sym (ap (λ r. r.client) here.1) ∙ client) ∙ kept.listed k before has (sym living ∙ ap (λ r. is_living r.held_by) here.1 ∙ lives) ∙ ap Some (sym here.0))
          (λ (other : (n ≢ k) × HasRow rows n row). kept.listed n row other.1 lives)
          (after_insert rows k n after row there);
      own = λ n row session there inside.
          ⊎_elim
          (λ (here : (n ≡ k) × (after ≡ row)).
          own session (ap (λ r. session_in r.held_by) here.1 ∙ inside) ∙ same_who k n after.client row.client (sym here.0) (ap (λ r. r.client) here.1))
          (λ (other : (n ≢ k) × HasRow rows n row). kept.own n row session other.1 inside)
          (after_insert rows k n after row there);
      made_before = λ n row there.
          ⊎_elim
          (λ (here : (n ≡ k) × (after ≡ row)). let below = kept.made_before k before has in let e = here.0 in omega arith)
          (λ (other : (n ≢ k) × HasRow rows n row). kept.made_before n row other.1)
          (after_insert rows k n after row there);
      kept_due = λ n row there is.
          ⊎_elim
          (λ (here : (n ≡ k) × (after ≡ row)). zero (subst IsKept (sym here.1) is))
          (λ (other : (n ≢ k) × HasRow rows n row). let none = kept.kept_due n row other.1 is in omega arith)
          (after_insert rows k n after row there);
      due = λ n now row there over.
          ⊎_elim
          (λ (here : (n ≡ k) × (after ≡ row)). due now (subst (IsOverdue now) (sym here.1) over))
          (λ (other : (n ≢ k) × HasRow rows n row). let then = kept.due n now row other.1 over in omega arith)
          (after_insert rows k n after row there);
    }

none_in : {E P : Type 0} (session : Session E P) → None ≡ Some session → ⊥
none_in session e = cc

same_session : {E P : Type 0} (session s : Session E P) → Some session ≡ Some s → session ≡ s
same_session session s e = cc

pub same_parked : {E P : Type 0} (session s : Session E P) → Parked session ≡ Parked s → session ≡ s
same_parked session s e = cc

-- it is lent again
pub kept_lend : {E P : Type 0} (rows : Rows E P) (at : At) (made soonest k connection : ℕ) (row : Row E P) (session : Session E P)
    → AreKept rows at made soonest → HasRow rows k row → row.held_by ≡ Parked session
    → AreKept (map.insert rows k (with_holder row (Lent connection))) at made soonest
kept_lend rows at made soonest k connection row session kept has is =
    kept_exchange rows at made soonest soonest k row (with_holder row (Lent connection)) kept has refl (sym (ap is_living is)) (λ s inside. absurd (none_in s inside)) (omega arith)
    (λ there. absurd (let e = there.1 in cc)) (λ now over. absurd (let e = over.1 in cc))

-- it is parked
pub kept_park : {E P : Type 0} (rows : Rows E P) (at : At) (made soonest sooner k connection : ℕ) (row : Row E P) (session : Session E P)
    → AreKept rows at made soonest → HasRow rows k row → row.held_by ≡ Lent connection → session.identity ≡ record { number = k; client = row.client }
    → sooner ≤ soonest → ((now : ℕ) → IsOver session.expiry now → sooner ≤ now)
    → AreKept (map.insert rows k (with_holder row (Parked session))) at made sooner
kept_park rows at made soonest sooner k connection row session kept has is identity less due =
    kept_exchange rows at made soonest sooner k row (with_holder row (Parked session)) kept has refl (sym (ap is_living is)) (λ s inside. ap (λ t. t.identity) (sym (same_session session s inside)) ∙ identity) less
    (λ there. absurd (let e = there.1 in cc)) (λ now over. due now (subst (λ t. IsOver t.expiry now) (sym (same_parked session over.0 over.1)) over.2))

-- an ending session is kept
pub kept_keep : {E P : Type 0} (rows : Rows E P) (at : At) (made soonest k : ℕ) (row : Row E P) (session : Session E P)
    → AreKept rows at made soonest → HasRow rows k row → row.held_by ≡ Away → session.identity ≡ record { number = k; client = row.client }
    → AreKept (map.insert rows k (with_holder row (Kept session))) at made 0
kept_keep rows at made soonest k row session kept has is identity =
    kept_exchange rows at made soonest 0 k row (with_holder row (Kept session)) kept has refl (sym (ap is_living is)) (λ s inside. ap (λ t. t.identity) (sym (same_session session s inside)) ∙ identity) (omega arith)
    (λ there. refl) (λ now over. omega arith)

-- a connection waits for it
pub kept_claim : {E P : Type 0} (rows : Rows E P) (at : At) (made soonest k connection : ℕ) (row : Row E P)
    → AreKept rows at made soonest → HasRow rows k row → AreKept (map.insert rows k (with_wait row connection)) at made soonest
kept_claim rows at made soonest k connection row kept has =
    kept_exchange rows at made soonest soonest k row (with_wait row connection) kept has refl refl (λ s inside. kept.own k row s has inside) (omega arith)
    (λ there. kept.kept_due k row has there) (λ now over. kept.due k now row has over)

-- an ending session is handed out
pub kept_give : {E P : Type 0} (rows : Rows E P) (at : At) (made soonest k : ℕ) (row : Row E P) (session : Session E P)
    → AreKept rows at made soonest → HasRow rows k row → row.held_by ≡ Kept session → AreKept (map.insert rows k (away row.client)) at made soonest
kept_give rows at made soonest k row session kept has is =
    kept_exchange rows at made soonest soonest k row (away row.client) kept has refl (sym (ap is_living is)) (λ s inside. absurd (let e = inside in cc)) (omega arith)
    (λ there. absurd (let e = there.1 in cc)) (λ now over. absurd (let e = over.1 in cc))

same_text : (c d : List ℕ) → pointwise nat_eq c d ≡ true → c ≡ d
same_text c d e = (bytes_decides c d).0 e

reads : {A : Type 0} (b : Bool) (r : Bool) (x y : A) → b ≡ r → cond b x y ≡ cond r x y
reads b r x y e = ap (λ t. cond t x y) e

-- the session of a client that is lent or parked ends
pub kept_dismiss : {E P : Type 0} (rows : Rows E P) (at after : At) (made soonest k : ℕ) (row : Row E P)
    → AreKept rows at made soonest → HasRow rows k row → is_living row.held_by ≡ true
    → ((client : List ℕ) → after client ≡ cond (pointwise nat_eq row.client client) None (at client))
    → AreKept (map.insert rows k (away row.client)) after made soonest
kept_dismiss {E} {P} rows at after made soonest k row kept has lives leads =
    record {
      found = λ c n there.
          ⊎_elim
          (λ (own : pointwise nat_eq row.client c ≡ true). absurd (let none = reads _ _ None (at c) own in let is = leads c in cc))
          (λ (other : pointwise nat_eq row.client c ≡ false).
          let f = kept.found c n (sym (leads c ∙ reads _ _ None (at c) other) ∙ there) in
          let apart : n ≡ k → ⊥ = λ e. false≢true (sym other ∙ (bytes_decides row.client c).1 (ap (λ r. r.client) (sym (one_row rows k f.0 row (subst (λ n. HasRow rows n f.0) e f.1) has)) ∙ f.2.its)) in
          (f.0, insert_other rows k n (away row.client) apart ∙ f.1, f.2))
          (cases_Bool (pointwise nat_eq row.client c));
      listed = λ n other there living.
          ⊎_elim
          (λ (here : (n ≡ k) × (away {E = E} {P = P} row.client ≡ other)). absurd (false≢true (ap (λ r. is_living r.held_by) here.1 ∙ living)))
          (λ (old : (n ≢ k) × HasRow rows n other).
          let was = kept.listed n other old.1 living in
          ⊎_elim
          (λ (own : pointwise nat_eq row.client other.client ≡ true).
          absurd (old.0 (let mine = kept.listed k row has lives in let same = ap at (same_text row.client other.client own) in cc)))
          (λ (apart : pointwise nat_eq row.client other.client ≡ false). leads other.client ∙ reads _ _ None (at other.client) apart ∙ was)
          (cases_Bool (pointwise nat_eq row.client other.client)))
          (after_insert rows k n (away row.client) other there);
      own = λ n other session there inside.
          ⊎_elim
          (λ (here : (n ≡ k) × (away {E = E} {P = P} row.client ≡ other)). absurd (let e = ap (λ r. session_in r.held_by) here.1 ∙ inside in cc))
          (λ (old : (n ≢ k) × HasRow rows n other). kept.own n other session old.1 inside)
          (after_insert rows k n (away row.client) other there);
      made_before = λ n other there.
          ⊎_elim
          (λ (here : (n ≡ k) × (away {E = E} {P = P} row.client ≡ other)). let below = kept.made_before k row has in let e = here.0 in omega arith)
          (λ (old : (n ≢ k) × HasRow rows n other). kept.made_before n other old.1)
          (after_insert rows k n (away row.client) other there);
      kept_due = λ n other there is.
          ⊎_elim
          (λ (here : (n ≡ k) × (away {E = E} {P = P} row.client ≡ other)). absurd (let e = ap (λ r. r.held_by) here.1 ∙ is.1 in cc))
          (λ (old : (n ≢ k) × HasRow rows n other). kept.kept_due n other old.1 is)
          (after_insert rows k n (away row.client) other there);
      due = λ n now other there over.
          ⊎_elim
          (λ (here : (n ≡ k) × (away {E = E} {P = P} row.client ≡ other)). absurd (let e = ap (λ r. r.held_by) here.1 ∙ over.1 in cc))
          (λ (old : (n ≢ k) × HasRow rows n other). kept.due n now other old.1 over)
          (after_insert rows k n (away row.client) other there);
    }

-- a session of a client that has none begins
pub kept_begin : {E P : Type 0} (rows : Rows E P) (at after : At) (made soonest connection : ℕ) (client : List ℕ)
    → AreKept rows at made soonest → NoneLivesAs rows client
    → ((other : List ℕ) → after other ≡ cond (pointwise nat_eq client other) (Some made) (at other))
    → AreKept (map.insert rows made (new_row client connection)) after (made + 1) soonest
kept_begin {E} {P} rows at after made soonest connection client kept none leads =
    let row : Row E P = new_row client connection in
    record {
      found = λ c n there.
          ⊎_elim
          (λ (own : pointwise nat_eq client c ≡ true).
          let e : made ≡ n = (let is = leads c ∙ reads _ _ (Some made) (at c) own in cc) in
          (row, subst (λ n. HasRow (map.insert rows made row) n row) e (insert_here rows made row), record { its = same_text client c own; living = refl }))
          (λ (other : pointwise nat_eq client c ≡ false).
          let f = kept.found c n (sym (leads c ∙ reads _ _ (Some made) (at c) other) ∙ there) in
          let below = kept.made_before n f.0 f.1 in
          (f.0, insert_other rows made n row (λ (e : n ≡ made). absurd (omega arith)) ∙ f.1, f.2))
          (cases_Bool (pointwise nat_eq client c));
      listed = λ n other there living.
          ⊎_elim
          (λ (here : (n ≡ made) × (row ≡ other)).
          ap after (sym (ap (λ r. r.client) here.1)) ∙ leads client ∙ reads _ _ (Some made) (at client) ((bytes_decides client client).1 refl) ∙ ap Some (sym here.0))
          (λ (old : (n ≢ made) × HasRow rows n other).
          ⊎_elim
          (λ (own : pointwise nat_eq client other.client ≡ true). absurd (none n other old.1 record { its = sym (same_text client other.client own); living = living }))
          (λ (apart : pointwise nat_eq client other.client ≡ false). leads other.client ∙ reads _ _ (Some made) (at other.client) apart ∙ kept.listed n other old.1 living)
          (cases_Bool (pointwise nat_eq client other.client)))
          (after_insert rows made n row other there);
      own = λ n other session there inside.
          ⊎_elim
          (λ (here : (n ≡ made) × (row ≡ other)). absurd (let e = ap (λ r. session_in r.held_by) here.1 ∙ inside in cc))
          (λ (old : (n ≢ made) × HasRow rows n other). kept.own n other session old.1 inside)
          (after_insert rows made n row other there);
      made_before = λ n other there.
          ⊎_elim
          (λ (here : (n ≡ made) × (row ≡ other)). let e = here.0 in omega arith)
          (λ (old : (n ≢ made) × HasRow rows n other). let below = kept.made_before n other old.1 in omega arith)
          (after_insert rows made n row other there);
      kept_due = λ n other there is.
          ⊎_elim
          (λ (here : (n ≡ made) × (row ≡ other)). absurd (let e = ap (λ r. r.held_by) here.1 ∙ is.1 in cc))
          (λ (old : (n ≢ made) × HasRow rows n other). kept.kept_due n other old.1 is)
          (after_insert rows made n row other there);
      due = λ n now other there over.
          ⊎_elim
          (λ (here : (n ≡ made) × (row ≡ other)). absurd (let e = ap (λ r. r.held_by) here.1 ∙ over.1 in cc))
          (λ (old : (n ≢ made) × HasRow rows n other). kept.due n now other old.1 over)
          (after_insert rows made n row other there);
    }

-- once its session has ended, a client has none
pub none_after_dismiss : {E P : Type 0} (rows : Rows E P) (at : At) (made soonest k : ℕ) (row : Row E P)
    → AreKept rows at made soonest → HasRow rows k row → is_living row.held_by ≡ true → NoneLivesAs (map.insert rows k (away row.client)) row.client
none_after_dismiss {E} {P} rows at made soonest k row kept has lives = λ n other there it.
    ⊎_elim
    (λ (here : (n ≡ k) × (away {E = E} {P = P} row.client ≡ other)). false≢true (ap (λ r. is_living r.held_by) here.1 ∙ it.living))
    (λ (old : (n ≢ k) × HasRow rows n other). old.0 (let mine = kept.listed k row has lives in let theirs = kept.listed n other old.1 it.living in let same = ap at it.its in cc))
    (after_insert rows k n (away row.client) other there)

-- a row is taken away
pub kept_remove : {E P : Type 0} (rows : Rows E P) (at : At) (made soonest k : ℕ) (row : Row E P)
    → AreKept rows at made soonest → HasRow rows k row → row.held_by ≡ Away → AreKept (map.remove rows k) at made soonest
kept_remove rows at made soonest k row kept has is =
    record {
      found = λ c n leads.
          let f = kept.found c n leads in
          let apart : n ≡ k → ⊥ = λ e. false≢true (sym (ap is_living (ap (λ r. r.held_by) (one_row rows k f.0 row (subst (λ n. HasRow rows n f.0) e f.1) has) ∙ is)) ∙ f.2.living) in
          (f.0, remove_other rows k n apart ∙ f.1, f.2);
      listed = λ n other there living. kept.listed n other (after_remove rows k n other there).1 living;
      own = λ n other session there inside. kept.own n other session (after_remove rows k n other there).1 inside;
      made_before = λ n other there. kept.made_before n other (after_remove rows k n other there).1;
      kept_due = λ n other there it. kept.kept_due n other (after_remove rows k n other there).1 it;
      due = λ n now other there over. kept.due n now other (after_remove rows k n other there).1 over;
    }

-- nothing is due before a later moment, where none is kept
pub kept_later : {E P : Type 0} (rows : Rows E P) (at : At) (made soonest later : ℕ) → AreKept rows at made soonest
    → ((n : ℕ) (row : Row E P) → HasRow rows n row → ¬ IsKept row) → ((n now : ℕ) (row : Row E P) → HasRow rows n row → IsOverdue now row → later ≤ now)
    → AreKept rows at made later
kept_later rows at made soonest later kept none due =
    record {
      found = kept.found;
      listed = kept.listed;
      own = kept.own;
      made_before = kept.made_before;
      kept_due = λ n row has is. absurd (none n row has is);
      due = due;
    }

abbrev pub registered : {E P : Type 0} → Rows E P → ℕ → Register E P
registered rows made = record { rows = rows; made = made }

pub none_of : {A : Type 0} (o : Option A) → ((a : A) → o ≡ Some a → ⊥) → o ≡ None
none_of None h = refl
none_of (Some a) h = absurd (h a refl)

-- the number of the next session is no session's
pub fresh_number : {E P : Type 0} (rows : Rows E P) (at : At) (made soonest : ℕ) → AreKept rows at made soonest → map.get rows made ≡ None
fresh_number rows at made soonest kept = none_of (map.get rows made) (λ row has. let below = kept.made_before made row has in omega arith)

pub fresh_after : {E P : Type 0} (rows : Rows E P) (at : At) (made soonest k : ℕ) (row after : Row E P) → AreKept rows at made soonest → HasRow rows k row
    → map.get (map.insert rows k after) made ≡ None
fresh_after rows at made soonest k row after kept has =
    let below = kept.made_before k row has in
    insert_other rows k made after (λ (e : made ≡ k). omega arith) ∙ fresh_number rows at made soonest kept

-- a row that was written before a session is new is still there
pub still_away : {E P : Type 0} (rows : Rows E P) (at : At) (made soonest k : ℕ) (row fresh : Row E P) → AreKept rows at made soonest → HasRow rows k row
    → HasRow (map.insert (map.insert rows k (away row.client)) made fresh) k (away row.client)
still_away {E} {P} rows at made soonest k row fresh kept has =
    let after : Row E P = away row.client in
    let below = kept.made_before k row has in
    insert_other (map.insert rows k after) made k fresh (λ (e : k ≡ made). omega arith) ∙ insert_here rows k after

shadowed : {A : Type 0} (b : Bool) (x y z : A) → cond b x z ≡ cond b x (cond b y z)
shadowed true x y z = refl
shadowed false x y z = refl

-- a session begins in the place of a parked one
pub kept_begin_over : {E P : Type 0} (rows : Rows E P) (at after : At) (made soonest k connection : ℕ) (row : Row E P) (client : List ℕ)
    → AreKept rows at made soonest → HasRow rows k row → is_living row.held_by ≡ true → row.client ≡ client
    → ((other : List ℕ) → after other ≡ cond (pointwise nat_eq client other) (Some made) (at other))
    → AreKept (map.insert (map.insert rows k (away row.client)) made (new_row client connection)) after (made + 1) soonest
kept_begin_over {E} {P} rows at after made soonest k connection row client kept has lives its leads =
    let between : At = λ other. cond (pointwise nat_eq client other) None (at other) in
    kept_begin (map.insert rows k (away row.client)) between after made soonest connection client
    (kept_dismiss rows at between made soonest k row kept has lives (λ other. ap (λ t. cond (pointwise nat_eq t other) None (at other)) (sym its)))
    (subst (NoneLivesAs (map.insert rows k (away row.client))) its (none_after_dismiss rows at made soonest k row kept has lives))
    (λ other. leads other ∙ shadowed (pointwise nat_eq client other) (Some made) None (at other))

swapped : {A : Type 0} (a b : Bool) (x y z : A) → (a ≡ true → b ≡ true → ⊥) → cond a x (cond b y z) ≡ cond b y (cond a x z)
swapped true true x y z apart = absurd (apart refl refl)
swapped true false x y z apart = refl
swapped false b x y z apart = refl

-- a client that has no session has none where another's ends
pub still_none : {E P : Type 0} (rows : Rows E P) (k : ℕ) (client other : List ℕ) → NoneLivesAs rows client → NoneLivesAs (map.insert rows k (away {E = E} {P = P} other)) client
still_none {E} {P} rows k client other none n row there lives =
    ⊎_elim
    (λ (here : (n ≡ k) × (away {E = E} {P = P} other ≡ row)). false≢true (ap (λ r. is_living r.held_by) here.1 ∙ lives.living))
    (λ (was : (n ≢ k) × HasRow rows n row). none n row was.1 lives)
    (after_insert rows k n (away other) row there)

-- a session begins in the place of another client's
pub kept_displace : {E P : Type 0} (rows : Rows E P) (at after : At) (made soonest k connection : ℕ) (row : Row E P) (client : List ℕ)
    → AreKept rows at made soonest → HasRow rows k row → is_living row.held_by ≡ true → NoneLivesAs rows client
    → ((other : List ℕ) → after other ≡ cond (pointwise nat_eq row.client other) None (cond (pointwise nat_eq client other) (Some made) (at other)))
    → AreKept (map.insert (map.insert rows k (away row.client)) made (new_row client connection)) after (made + 1) soonest
kept_displace {E} {P} rows at after made soonest k connection row client kept has lives none leads =
    let between : At = λ other. cond (pointwise nat_eq row.client other) None (at other) in
    kept_begin (map.insert rows k (away row.client)) between after made soonest connection client
    (kept_dismiss rows at between made soonest k row kept has lives (λ other. refl))
    (still_none rows k client row.client none)
    (λ other. leads other ∙ swapped (pointwise nat_eq row.client other) (pointwise nat_eq client other) None (Some made) (at other)
    (λ own theirs. none k row has (record { its = same_text row.client other own ∙ sym (same_text client other theirs); living = lives })))

no_rows_at_all : {E P : Type 0} (n : ℕ) (row : Row E P) → HasRow (map.empty {R = nat_cmp}) n row → ⊥
no_rows_at_all {E} {P} n row has = let none = get-empty {X = Row E P} nat_cmp n in cc

kept_none : {E P : Type 0} (made soonest : ℕ) → AreKept {E = E} {P = P} map.empty (λ client. None) made soonest
kept_none made soonest =
    record {
      found = λ c n leads. absurd (let e = leads in cc);
      listed = λ n row has living. absurd (no_rows_at_all n row has);
      own = λ n row session has inside. absurd (no_rows_at_all n row has);
      made_before = λ n row has. absurd (no_rows_at_all n row has);
      kept_due = λ n row has is. absurd (no_rows_at_all n row has);
      due = λ n now row has over. absurd (no_rows_at_all n row has);
    }

-- a new table
pub kept_new : {E P : Type 0} (es : List (ℕ × Row E P)) (ls : List (List ℕ × ℕ)) (made soonest : ℕ) → es ≡ [] → ls ≡ [] → AreKept (seen es) (number_at ls) made soonest
kept_new {E} {P} es ls made soonest none bare =
    subst (λ (es : List (ℕ × Row E P)). AreKept (seen es) (number_at ls) made soonest) (sym none)
    (subst (λ (ls : List (List ℕ × ℕ)). AreKept {E = E} {P = P} map.empty (number_at ls) made soonest) (sym bare) (kept_none made soonest))
