-- Each call moves sessions between hands, one at a time, and keeps the desk law.
use Rattle.std.proofs.Common.{◌≡◌, ◌≢◌, ℕ, ◌+◌, ◌<◌, ◌≤◌, nat_eq, nat_lt, if◌then◌else◌, Bool, true, false, cond, List, Some, None, refl, sym, ap, ◌∙◌, ⊎_elim, arith}
use Rattle.std.specs.FinMap as map
use Rattle.std.proofs.lemmas.Bool.{cases_Bool, cases_eq, eqb-true, eq-eqb, false≢true}
use Rattle.session_desk.specs.declared.session.Session.{Session}
use Rattle.session_desk.specs.declared.row.Row.{Row}
use Rattle.session_desk.specs.declared.row.Holder.{Holder}
use Rattle.session_desk.specs.declared.row.Holder.TheVariants.{Parked, Away}
use Rattle.limits.specs.Limits.{most_sessions}
use Rattle.session_desk.specs.Rows.{Rows, HasRow, NoneLivesAs, is_living, most_rows, session_in, away, new_row}
use Rattle.session_desk.specs.Hands.{is_out, out_of_row, row_count, outs, rows_of, living_row, living_in, DeskLaw}
use Rattle.session_desk.proofs.Seen.{after_insert, insert_here, insert_other, after_remove, remove_here, remove_other}
use Rattle.session_desk.proofs.Booked.{len_same, len_more, len_removed}
use Rattle.session_desk.proofs.Living.{living_moved, living_more, living_removed}
use Rattle.session_desk.proofs.Kept.{same_who, none_of}
use Rattle.std.proofs.lemmas.Bool.Decides.{nat_tests}

abbrev pub out_of : {E P : Type 0} → Holder E P → ℕ
out_of held_by = if is_out held_by then 1 else 0

chosen : (b : Bool) (x : ℕ) → b ≡ true → cond b x 0 ≡ x
chosen b x e = ap (λ t. cond t x 0) e

not_chosen : (b : Bool) (x : ℕ) → b ≡ false → cond b x 0 ≡ 0
not_chosen b x e = ap (λ t. cond t x 0) e

-- how often a session is out, after its row is written
pub outs_moved : {E P : Type 0} (rows : Rows E P) (k n : ℕ) (before after : Row E P) (i o : ℕ) → HasRow rows k before → out_of after.held_by + i ≡ out_of before.held_by + o
    → outs (map.insert rows k after) n + cond (nat_eq k n) i 0 ≡ outs rows n + cond (nat_eq k n) o 0
outs_moved rows k n before after i o has moves =
    ⊎_elim
    (λ (is : nat_eq k n ≡ true).
    let here : map.get (map.insert rows k after) n ≡ Some after = ap (map.get (map.insert rows k after)) (sym (eqb-true k n is)) ∙ insert_here rows k after in
    let was : map.get rows n ≡ Some before = ap (map.get rows) (sym (eqb-true k n is)) ∙ has in
    let now = ap out_of_row here in
    let past = ap out_of_row was in
    let ci = chosen (nat_eq k n) i is in
    let co = chosen (nat_eq k n) o is in
    omega arith)
    (λ (isnt : nat_eq k n ≡ false).
    let same : outs (map.insert rows k after) n ≡ outs rows n = ap out_of_row (insert_other rows k n after (λ e. false≢true (sym isnt ∙ eq-eqb k n (sym e)))) in
    let ci = not_chosen (nat_eq k n) i isnt in
    let co = not_chosen (nat_eq k n) o isnt in
    omega arith)
    (cases_Bool (nat_eq k n))

-- and how many rows it has
pub rows_moved : {E P : Type 0} (rows : Rows E P) (k n : ℕ) (before after : Row E P) → HasRow rows k before → rows_of (map.insert rows k after) n ≡ rows_of rows n
rows_moved rows k n before after has =
    ⊎_elim
    (λ (same : n ≡ k). ap row_count (ap (map.get (map.insert rows k after)) same ∙ insert_here rows k after) ∙ sym (ap row_count (ap (map.get rows) same ∙ has)))
    (λ (other : n ≡ k → ⊥). ap row_count (insert_other rows k n after other))
    (cases_eq n k)

-- after a session is new
pub outs_begun : {E P : Type 0} (rows : Rows E P) (k n : ℕ) (client : List ℕ) (connection : ℕ) → map.get rows k ≡ None
    → outs (map.insert rows k (new_row {E = E} {P = P} client connection)) n ≡ outs rows n + cond (nat_eq k n) 1 0
outs_begun rows k n client connection none =
    ⊎_elim
    (λ (is : nat_eq k n ≡ true).
    let here = ap out_of_row (ap (map.get (map.insert rows k (new_row client connection))) (sym (eqb-true k n is)) ∙ insert_here rows k (new_row client connection)) in
    let was = ap out_of_row (ap (map.get rows) (sym (eqb-true k n is)) ∙ none) in
    let c = chosen (nat_eq k n) 1 is in
    omega arith)
    (λ (isnt : nat_eq k n ≡ false).
    let same = ap out_of_row (insert_other rows k n (new_row client connection) (λ e. false≢true (sym isnt ∙ eq-eqb k n (sym e)))) in
    let c = not_chosen (nat_eq k n) 1 isnt in
    omega arith)
    (cases_Bool (nat_eq k n))

pub rows_begun : {E P : Type 0} (rows : Rows E P) (k n : ℕ) (row : Row E P) → map.get rows k ≡ None
    → rows_of (map.insert rows k row) n ≡ rows_of rows n + cond (nat_eq k n) 1 0
rows_begun rows k n row none =
    ⊎_elim
    (λ (is : nat_eq k n ≡ true).
    let here = ap row_count (ap (map.get (map.insert rows k row)) (sym (eqb-true k n is)) ∙ insert_here rows k row) in
    let was = ap row_count (ap (map.get rows) (sym (eqb-true k n is)) ∙ none) in
    let c = chosen (nat_eq k n) 1 is in
    omega arith)
    (λ (isnt : nat_eq k n ≡ false).
    let same = ap row_count (insert_other rows k n row (λ e. false≢true (sym isnt ∙ eq-eqb k n (sym e)))) in
    let c = not_chosen (nat_eq k n) 1 isnt in
    omega arith)
    (cases_Bool (nat_eq k n))

-- after it is buried
pub outs_removed : {E P : Type 0} (rows : Rows E P) (k n : ℕ) (row : Row E P) → HasRow rows k row → row.held_by ≡ Away
    → outs (map.remove rows k) n + cond (nat_eq k n) 1 0 ≡ outs rows n
outs_removed rows k n row has gone =
    ⊎_elim
    (λ (is : nat_eq k n ≡ true).
    let here = ap out_of_row (ap (map.get (map.remove rows k)) (sym (eqb-true k n is)) ∙ remove_here rows k) in
    let was = ap out_of_row (ap (map.get rows) (sym (eqb-true k n is)) ∙ has) ∙ ap out_of gone in
    let c = chosen (nat_eq k n) 1 is in
    omega arith)
    (λ (isnt : nat_eq k n ≡ false).
    let same = ap out_of_row (remove_other rows k n (λ e. false≢true (sym isnt ∙ eq-eqb k n (sym e)))) in
    let c = not_chosen (nat_eq k n) 1 isnt in
    omega arith)
    (cases_Bool (nat_eq k n))

pub rows_removed : {E P : Type 0} (rows : Rows E P) (k n : ℕ) (row : Row E P) → HasRow rows k row → rows_of (map.remove rows k) n + cond (nat_eq k n) 1 0 ≡ rows_of rows n
rows_removed rows k n row has =
    ⊎_elim
    (λ (is : nat_eq k n ≡ true).
    let here = ap row_count (ap (map.get (map.remove rows k)) (sym (eqb-true k n is)) ∙ remove_here rows k) in
    let was = ap row_count (ap (map.get rows) (sym (eqb-true k n is)) ∙ has) in
    let c = chosen (nat_eq k n) 1 is in
    omega arith)
    (λ (isnt : nat_eq k n ≡ false).
    let same = ap row_count (remove_other rows k n (λ e. false≢true (sym isnt ∙ eq-eqb k n (sym e)))) in
    let c = not_chosen (nat_eq k n) 1 isnt in
    omega arith)
    (cases_Bool (nat_eq k n))

-- one more number is below the next
pub below_next : (k n : ℕ) → cond (nat_lt n (k + 1)) 1 0 ≡ cond (nat_lt n k) 1 0 + cond (nat_eq k n) 1 0
below_next k n = grind (arith, nat_tests)

-- a row that is lent or parked was so before
once_moved : {E P : Type 0} (rows : Rows E P) (k : ℕ) (before after : Row E P) → HasRow rows k before → after.client ≡ before.client
    → (is_living after.held_by ≡ true → is_living before.held_by ≡ true) → (n : ℕ) (row : Row E P) → HasRow (map.insert rows k after) n row → is_living row.held_by ≡ true
    → (old : Row E P) × HasRow rows n old × (is_living old.held_by ≡ true) × (old.client ≡ row.client)
once_moved rows k before after has client lives n row there living =
    ⊎_elim
    (λ (here : (n ≡ k) × (after ≡ row)). (
      before,
      ap (map.get rows) here.0 ∙ has,
      lives (ap (λ r. is_living r.held_by) here.1 ∙ living),
      sym client ∙ ap (λ r. r.client) here.1,
    ))
    (λ (old : (n ≢ k) × HasRow rows n row). (row, old.1, living, refl))
    (after_insert rows k n after row there)

no_more_by : (b a : Bool) → (a ≡ true → b ≡ true) → cond a 1 0 ≤ cond b 1 0
no_more_by true true lives = omega arith
no_more_by true false lives = omega arith
no_more_by false true lives = absurd (false≢true (lives refl))
no_more_by false false lives = omega arith

pub no_more : {E P : Type 0} (before after : Row E P) → (is_living after.held_by ≡ true → is_living before.held_by ≡ true) → living_row after ≤ living_row before
no_more before after lives = no_more_by (is_living before.held_by) (is_living after.held_by) lives

-- the law is kept where a session changes hands
pub law_moved : {E P : Type 0} (rows : Rows E P) (made k : ℕ) (before after : Row E P) → DeskLaw rows made → HasRow rows k before → after.client ≡ before.client
    → (is_living after.held_by ≡ true → is_living before.held_by ≡ true)
    → ((session : Session E P) → session_in after.held_by ≡ Some session → session.identity ≡ record { number = k; client = after.client })
    → ((session : Session E P) → after.held_by ≡ Parked session → session.window.retired ≡ false)
    → DeskLaw (map.insert rows k after) made
law_moved rows made k before after law has client lives own quiet =
    record {
      few = (let moved = living_moved rows k before after has in let less = no_more before after lives in let few = law.few in omega arith);
      fit = (let same = len_same rows k before after has in let fit = law.fit in omega arith);
      made_before = λ n row there.
          ⊎_elim
          (λ (here : (n ≡ k) × (after ≡ row)). let below = law.made_before k before has in let e = here.0 in omega arith)
          (λ (old : (n ≢ k) × HasRow rows n row). law.made_before n row old.1)
          (after_insert rows k n after row there);
      one_each = λ n m row their there here living alive same.
          let one = once_moved rows k before after has client lives n row there living in
          let two = once_moved rows k before after has client lives m their here alive in
          law.one_each n m one.0 two.0 one.1 two.1 one.2 two.2 (one.3 ∙ same ∙ sym two.3);
      own = λ n row session there inside.
          ⊎_elim
          (λ (here : (n ≡ k) × (after ≡ row)). own session (ap (λ r. session_in r.held_by) here.1 ∙ inside) ∙ same_who k n after.client row.client (sym here.0) (ap (λ r. r.client) here.1))
          (λ (old : (n ≢ k) × HasRow rows n row). law.own n row session old.1 inside)
          (after_insert rows k n after row there);
      not_ending = λ n row session there is.
          ⊎_elim
          (λ (here : (n ≡ k) × (after ≡ row)). quiet session (ap (λ r. r.held_by) here.1 ∙ is))
          (λ (old : (n ≢ k) × HasRow rows n row). law.not_ending n row session old.1 is)
          (after_insert rows k n after row there);
    }

-- where one is new
pub law_begun : {E P : Type 0} (rows : Rows E P) (made : ℕ) (client : List ℕ) (connection : ℕ) → DeskLaw rows made → NoneLivesAs rows client → living_in rows < most_sessions → map.len rows < most_rows
    → DeskLaw (map.insert rows made (new_row {E = E} {P = P} client connection)) (made + 1)
law_begun {E} {P} rows made client connection law none room fits =
    let row : Row E P = new_row client connection in
    let absent : map.get rows made ≡ None = none_of (map.get rows made) (λ r has. let below = law.made_before made r has in omega arith) in
    record {
      few = (let more = living_more rows made row absent in omega arith);
      fit = (let more = len_more rows made row absent in omega arith);
      made_before = λ n other there.
          ⊎_elim
          (λ (here : (n ≡ made) × (row ≡ other)). let e = here.0 in omega arith)
          (λ (old : (n ≢ made) × HasRow rows n other). let below = law.made_before n other old.1 in omega arith)
          (after_insert rows made n row other there);
      one_each = λ n m one two there here living alive same.
          ⊎_elim
          (λ (new : (n ≡ made) × (row ≡ one)).
          ⊎_elim
          (λ (too : (m ≡ made) × (row ≡ two)). new.0 ∙ sym too.0)
          (λ (old : (m ≢ made) × HasRow rows m two). absurd (none m two old.1 record { its = sym same ∙ sym (ap (λ r. r.client) new.1); living = alive }))
          (after_insert rows made m row two here))
          (λ (was : (n ≢ made) × HasRow rows n one).
          ⊎_elim
          (λ (too : (m ≡ made) × (row ≡ two)). absurd (none n one was.1 record { its = same ∙ sym (ap (λ r. r.client) too.1); living = living }))
          (λ (old : (m ≢ made) × HasRow rows m two). law.one_each n m one two was.1 old.1 living alive same)
          (after_insert rows made m row two here))
          (after_insert rows made n row one there);
      own = λ n other session there inside.
          ⊎_elim
          (λ (here : (n ≡ made) × (row ≡ other)). absurd (let e = ap (λ r. session_in r.held_by) here.1 ∙ inside in cc))
          (λ (old : (n ≢ made) × HasRow rows n other). law.own n other session old.1 inside)
          (after_insert rows made n row other there);
      not_ending = λ n other session there is.
          ⊎_elim
          (λ (here : (n ≡ made) × (row ≡ other)). absurd (let e = ap (λ r. r.held_by) here.1 ∙ is in cc))
          (λ (old : (n ≢ made) × HasRow rows n other). law.not_ending n other session old.1 is)
          (after_insert rows made n row other there);
    }

-- where one is buried
pub law_removed : {E P : Type 0} (rows : Rows E P) (made k : ℕ) (row : Row E P) → DeskLaw rows made → HasRow rows k row → DeskLaw (map.remove rows k) made
law_removed rows made k row law has =
    record {
      few = (let less = living_removed rows k row has in let few = law.few in omega arith);
      fit = (let less = len_removed rows k row has in let fit = law.fit in omega arith);
      made_before = λ n other there. law.made_before n other (after_remove rows k n other there).1;
      one_each = λ n m one two there here living alive same. law.one_each n m one two (after_remove rows k n one there).1 (after_remove rows k m two here).1 living alive same;
      own = λ n other session there inside. law.own n other session (after_remove rows k n other there).1 inside;
      not_ending = λ n other session there is. law.not_ending n other session (after_remove rows k n other there).1 is;
    }

-- once its parked session has ended, a client has none
pub none_lives : {E P : Type 0} (rows : Rows E P) (made k : ℕ) (row : Row E P) → DeskLaw rows made → HasRow rows k row → is_living row.held_by ≡ true
    → NoneLivesAs (map.insert rows k (away {E = E} {P = P} row.client)) row.client
none_lives {E} {P} rows made k row law has living = λ n other there lives.
    ⊎_elim
    (λ (here : (n ≡ k) × (away {E = E} {P = P} row.client ≡ other)). false≢true (ap (λ r. is_living r.held_by) here.1 ∙ lives.living))
    (λ (old : (n ≢ k) × HasRow rows n other). old.0 (law.one_each n k other row old.1 has lives.living living lives.its))
    (after_insert rows k n (away row.client) other there)
