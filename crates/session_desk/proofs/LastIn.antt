-- What a row keeps is what was put into it last: what one call does, and then what all calls do.
use Rattle.std.proofs.Common.{◌≡◌, ◌≢◌, ℕ, Bool, cond, List, [], ◌∷◌, Option, Some, None, Result, Ok, Err, refl, sym, ap, ◌∙◌, subst, ⊎_elim, inl, inr}
use Rattle.std.specs.Option.{option_or}
use Rattle.std.specs.FinMap as map
use Rattle.std.specs.FinMap.{get-empty}
use Rattle.std.specs.Ordering.{nat_cmp}
use Rattle.std.proofs.lemmas.Bool.{eq-eqb, ne_eqb}
use Rattle.session_desk.specs.declared.attached.Attached.{Attached}
use Rattle.session_desk.specs.declared.attached.Attached.TheVariants.{New, Resumed, Replace, Busy}
use Rattle.session_desk.specs.declared.error.DeskError.{DeskError}
use Rattle.session_desk.specs.declared.error.DeskError.TheVariants.{Full, NoPlace, Memory, NoName}
use Rattle.session_desk.specs.declared.session.Session.{Session}
use Rattle.session_desk.specs.declared.row.Row.{Row}
use Rattle.session_desk.specs.declared.row.Holder.{Holder}
use Rattle.session_desk.specs.declared.row.Holder.TheVariants.{Lent, Parked, Kept}
use Rattle.session_desk.specs.Rows.{Rows, HasRow, NoRow, IsKept, IsOverdue, session_in, away, new_row, with_holder, with_wait}
use Rattle.session_desk.specs.Books.{Books, new_books}
use Rattle.session_desk.specs.Hands.{DeskLaw}
use Rattle.session_desk.specs.Keeping.{EndsLent, IsLent, parked_at}
use Rattle.session_desk.specs.declared.newcomers.Newcomers.{Newcomers}
use Rattle.session_desk.specs.Names.{assigned_name}
use Rattle.session_desk.specs.Newcomers.{Displaces}
use Rattle.session_desk.specs.Attaching.{Request, AttachesClient, AttachesUnnamed, attaches_by}
use Rattle.session_desk.specs.Sweeping.{HandsOut}
use Rattle.session_desk.specs.Calls.{Call, Attach, Withdraw, Kicked, Park, ParkAsIs, Keep, Bury, Sweep, LendPlace, TakePlace, Makes, MakesAll}
use Rattle.session_desk.specs.Stored.{its, put_in, last_in, IsOutBy, TakesOut}
use Rattle.session_desk.proofs.Seen.{after_insert, after_remove}

-- each row keeps what is said of its number
record AreLast {E P : Type 0} (rows : Rows E P) (last : ℕ → Option (Session E P)) : Type 0 where
  pub same : (number : ℕ) (row : Row E P) (session : Session E P) → HasRow rows number row → session_in row.held_by ≡ Some session → last number ≡ Some session

-- a row that keeps nothing is written
emptied : {E P : Type 0} (rows : Rows E P) (last : ℕ → Option (Session E P)) (k : ℕ) (after : Row E P) → AreLast rows last → session_in after.held_by ≡ None → AreLast (map.insert rows k after) last
emptied rows last k after are none =
    record {
      same = λ number row session has keeps.
          ⊎_elim
          (λ (here : (number ≡ k) × (after ≡ row)). absurd (let e = sym none ∙ ap (λ r. session_in r.held_by) here.1 ∙ keeps in cc))
          (λ (old : (number ≢ k) × HasRow rows number row). are.same number row session old.1 keeps)
          (after_insert rows k number after row has);
    }

-- a row is written that keeps what it kept
rewritten : {E P : Type 0} (rows : Rows E P) (last : ℕ → Option (Session E P)) (k : ℕ) (before after : Row E P) → AreLast rows last → HasRow rows k before → after.held_by ≡ before.held_by
    → AreLast (map.insert rows k after) last
rewritten rows last k before after are had stands =
    record {
      same = λ number row session has keeps.
          ⊎_elim
          (λ (here : (number ≡ k) × (after ≡ row)).
          are.same number before session (ap (map.get rows) here.0 ∙ had) (ap session_in (sym stands) ∙ ap (λ r. session_in r.held_by) here.1 ∙ keeps))
          (λ (old : (number ≢ k) × HasRow rows number row). are.same number row session old.1 keeps)
          (after_insert rows k number after row has);
    }

-- a session is put into its row
stored_in : {E P : Type 0} (rows : Rows E P) (last : ℕ → Option (Session E P)) (given stored : Session E P) (after : Row E P) → AreLast rows last → session_in after.held_by ≡ Some stored
    → AreLast (map.insert rows given.identity.number after) (λ n. option_or (its n given stored) (last n))
stored_in {E} {P} rows last given stored after are keeps =
    let k = given.identity.number in
    record {
      same = λ number row session has kept.
          ⊎_elim
          (λ (here : (number ≡ k) × (after ≡ row)).
          ap (λ (b : Bool). option_or (cond b (Some stored) None) (last number)) (eq-eqb k number (sym here.0)) ∙ sym keeps ∙ ap (λ r. session_in r.held_by) here.1 ∙ kept)
          (λ (old : (number ≢ k) × HasRow rows number row).
          ap (λ (b : Bool). option_or (cond b (Some stored) None) (last number)) (ne_eqb k number (λ e. old.0 (sym e))) ∙ are.same number row session old.1 kept)
          (after_insert rows k number after row has);
    }

removed : {E P : Type 0} (rows : Rows E P) (last : ℕ → Option (Session E P)) (k : ℕ) → AreLast rows last → AreLast (map.remove rows k) last
removed rows last k are = record { same = λ number row session has keeps. are.same number row session (after_remove rows k number row has).1 keeps }

-- a newcomer's session begins where another's ends
last_displaced : {E P : Type 0} (newcomers : Newcomers) (old new : Books E P) (client : List ℕ) (connection : ℕ) (session ended : Session E P) (last : ℕ → Option (Session E P))
    → AreLast old.rows last → Displaces newcomers old client connection session ended new → AreLast new.rows last
last_displaced {E} {P} newcomers old new client connection session ended last are h =
    subst (λ (b : Books E P). AreLast b.rows last) (sym h.after)
    (emptied (map.insert old.rows h.number (away h.row.client)) last old.made (new_row client connection) (emptied old.rows last h.number (away h.row.client) are refl) refl)

-- for a client with an identifier
last_client : {E P : Type 0} (newcomers : Newcomers) (old new : Books E P) (client : List ℕ) (request : Request) (answer : Result (Attached E P) DeskError) (last : ℕ → Option (Session E P))
    → AreLast old.rows last → AttachesClient newcomers old client request answer new → AreLast new.rows last
last_client {E} {P} newcomers old new client request (Ok (New session None)) last are h =
    subst (λ (b : Books E P). AreLast b.rows last) (sym h.after) (emptied old.rows last old.made (new_row client request.connection) are refl)
last_client {E} {P} newcomers old new client request (Ok (New session (Some ended))) last are (inl h) =
    subst (λ (b : Books E P). AreLast b.rows last) (sym h.after)
    (emptied (map.insert old.rows h.number (away h.row.client)) last old.made (new_row client request.connection) (emptied old.rows last h.number (away h.row.client) are refl) refl)
last_client {E} {P} newcomers old new client request (Ok (New session (Some ended))) last are (inr h) = last_displaced newcomers old new client request.connection session ended last are h
last_client {E} {P} newcomers old new client request (Ok (Resumed session)) last are h =
    subst (λ (b : Books E P). AreLast b.rows last) (sym h.after) (emptied old.rows last h.number (with_holder h.row (Lent request.connection)) are refl)
last_client {E} {P} newcomers old new client request (Ok (Replace holder)) last are h =
    subst (λ (b : Books E P). AreLast b.rows last) (sym h.after) (rewritten old.rows last h.number h.row (with_wait h.row request.connection) are h.its.has refl)
last_client {E} {P} newcomers old new client request (Ok Busy) last are h = subst (λ (b : Books E P). AreLast b.rows last) (sym h.1) are
last_client {E} {P} newcomers old new client request (Err Full) last are h = subst (λ (b : Books E P). AreLast b.rows last) (sym h.2) are
last_client {E} {P} newcomers old new client request (Err Memory) last are h = subst (λ (b : Books E P). AreLast b.rows last) (sym h.1) are
last_client newcomers old new client request (Err NoPlace) last are h = absurd h
last_client newcomers old new client request (Err NoName) last are h = absurd h

-- for one without
last_unnamed : {E P : Type 0} (newcomers : Newcomers) (old new : Books E P) (connection : ℕ) (answer : Result (Attached E P) DeskError) (last : ℕ → Option (Session E P))
    → AreLast old.rows last → AttachesUnnamed newcomers old connection answer new → AreLast new.rows last
last_unnamed {E} {P} newcomers old new connection (Ok (New session None)) last are h =
    subst (λ (b : Books E P). AreLast b.rows last) (sym h.after) (subst (λ (b : Books E P). AreLast b.rows last) (sym h.begins.after) (emptied old.rows last old.made _ are refl))
last_unnamed {E} {P} newcomers old new connection (Ok (New session (Some ended))) last are h =
    subst (λ (b : Books E P). AreLast b.rows last) (sym h.after) (last_displaced newcomers old h.mid (assigned_name h.number) connection session ended last are h.begins)
last_unnamed newcomers old new connection (Ok (Resumed session)) last are h = absurd h
last_unnamed newcomers old new connection (Ok (Replace holder)) last are h = absurd h
last_unnamed newcomers old new connection (Ok Busy) last are h = absurd h
last_unnamed {E} {P} newcomers old new connection (Err Full) last are h = subst (λ (b : Books E P). AreLast b.rows last) (sym h.2) are
last_unnamed {E} {P} newcomers old new connection (Err Memory) last are h = subst (λ (b : Books E P). AreLast b.rows last) (sym h.2) are
last_unnamed newcomers old new connection (Err NoPlace) last are h = absurd h
last_unnamed {E} {P} newcomers old new connection (Err NoName) last are h = subst (λ (b : Books E P). AreLast b.rows last) (sym h.1) are

last_attach : {E P : Type 0} (newcomers : Newcomers) (client : List ℕ) (old new : Books E P) (request : Request) (answer : Result (Attached E P) DeskError) (last : ℕ → Option (Session E P))
    → AreLast old.rows last → attaches_by newcomers client old request answer new → AreLast new.rows last
last_attach newcomers [] old new request answer last are h = last_unnamed newcomers old new request.connection answer last are h
last_attach newcomers (byte ∷ bytes) old new request answer last are h = last_client newcomers old new (byte ∷ bytes) request answer last are h

-- a session is handed out to be retired
last_given : {E P : Type 0} (old new : Rows E P) (IsSo : Row E P → Type 0) (held_by : Holder E P) (last : ℕ → Option (Session E P)) → AreLast old last → HandsOut old IsSo held_by new → AreLast new last
last_given {E} {P} old new IsSo held_by last are h =
    subst (λ (rows : Rows E P). AreLast rows last) (sym h.after) (emptied old last h.number (away h.oldest.row.client) are refl)

module _ {P : Type 0} (cell : P → ℕ) where
  -- each call
  last_call : {E : Type 0} (old new : Books E P) (call : Call E P) (last : ℕ → Option (Session E P)) → AreLast old.rows last → Makes cell old call new
      → AreLast new.rows (λ n. option_or (put_in n call) (last n))
  last_call old new (Attach newcomers request answer) last are made = last_attach newcomers request.client old new request answer last are made
  last_call {E} old new (Withdraw connection) last are made = subst (λ (b : Books E P). AreLast b.rows last) (sym made) are
  last_call {E} old new (Kicked connection answer) last are made = subst (λ (b : Books E P). AreLast b.rows last) (sym made.1) are
  last_call {E} old new (Park session now None) last are made =
      subst (λ (b : Books E P). AreLast b.rows (λ n. option_or (its n session (parked_at session now)) (last n))) (sym made.after)
      (stored_in old.rows last session (parked_at session now) (with_holder made.lent.row (Parked (parked_at session now))) are refl)
  last_call {E} old new (Park session now (Some back)) last are made =
      ⊎_elim
      (λ (h : EndsLent old session new).
      subst (λ (b : Books E P). AreLast b.rows last) (sym h.after) (emptied old.rows last session.identity.number (away h.lent.row.client) are refl))
      (λ (h : (IsLent old session → ⊥) × (new ≡ old)). subst (λ (b : Books E P). AreLast b.rows last) (sym h.1) are)
      made.1
  last_call {E} old new (ParkAsIs session None) last are made =
      subst (λ (b : Books E P). AreLast b.rows (λ n. option_or (its n session session) (last n))) (sym made.after)
      (stored_in old.rows last session session (with_holder made.lent.row (Parked session)) are refl)
  last_call {E} old new (ParkAsIs session (Some back)) last are made = subst (λ (b : Books E P). AreLast b.rows last) (sym made.2) are
  last_call {E} old new (Keep session None) last are made =
      subst (λ (b : Books E P). AreLast b.rows (λ n. option_or (its n session session) (last n))) (sym made.after)
      (stored_in old.rows last session session (with_holder made.gone.row (Kept session)) are refl)
  last_call {E} old new (Keep session (Some back)) last are made = subst (λ (b : Books E P). AreLast b.rows last) (sym made.2) are
  last_call {E} old new (Bury session None) last are made =
      subst (λ (b : Books E P). AreLast b.rows last) (sym made.1) (removed old.rows last session.identity.number are)
  last_call {E} old new (Bury session (Some back)) last are made = subst (λ (b : Books E P). AreLast b.rows last) (sym made.2) are
  last_call {E} old new (Sweep now None) last are made =
      subst (λ (b : Books E P). AreLast b.rows last) (sym made.2) (subst (λ (rows : Rows E P). AreLast rows last) (sym made.1.2) are)
  last_call {E} old new (Sweep now (Some session)) last are made =
      subst (λ (b : Books E P). AreLast b.rows last) (sym made.2)
      (
      ⊎_elim
      (λ (h : HandsOut old.rows IsKept (Kept session) made.0). last_given old.rows made.0 IsKept (Kept session) last are h)
      (λ (h : NoRow old.rows IsKept × HandsOut old.rows (IsOverdue now) (Parked session) made.0). last_given old.rows made.0 (IsOverdue now) (Parked session) last are h.1)
      made.1
      )
  last_call {E} old new (LendPlace slot answer) last are made = subst (λ (b : Books E P). AreLast b.rows last) (sym made.2) are
  last_call {E} old new (TakePlace place answer) last are made = subst (λ (b : Books E P). AreLast b.rows last) (sym made.2) are

either : {X : Type 0} (a b c : Option X) → option_or a (option_or b c) ≡ option_or (option_or a b) c
either None b c = refl
either (Some x) b c = refl

under : {E P : Type 0} (rows : Rows E P) (last other : ℕ → Option (Session E P)) → ((n : ℕ) → last n ≡ other n) → AreLast rows last → AreLast rows other
under rows last other same are = record { same = λ number row session has keeps. sym (same number) ∙ are.same number row session has keeps }

module _ {P : Type 0} (cell : P → ℕ) where
  -- all calls
  last_all : {E : Type 0} (old new : Books E P) (calls : List (Call E P)) (last : ℕ → Option (Session E P)) → AreLast old.rows last → MakesAll cell old calls new
      → AreLast new.rows (λ n. option_or (last_in n calls) (last n))
  last_all {E} old new [] last are made = subst (λ (b : Books E P). AreLast b.rows last) (sym made) are
  last_all old new (call ∷ calls) last are made =
      under new.rows (λ n. option_or (last_in n calls) (option_or (put_in n call) (last n))) (λ n. option_or (last_in n (call ∷ calls)) (last n))
      (λ n. either (last_in n calls) (put_in n call) (last n))
      (last_all made.1.0 new calls (λ n. option_or (put_in n call) (last n)) (last_call cell old made.1.0 call last are made.1.1) made.1.2)

-- a new desk keeps nothing
last_new : {E P : Type 0} → AreLast {E = E} {P = P} map.empty (λ n. None)
last_new {E} {P} = record { same = λ number row session has keeps. absurd (let none = get-empty {X = Row E P} nat_cmp number in cc) }

-- what comes out of its row at a call, by what the rows keep
out_of_row : {E P : Type 0} (rows : Rows E P) (made number : ℕ) (row : Row E P) (session : Session E P) (last : ℕ → Option (Session E P)) → DeskLaw rows made → AreLast rows last
    → HasRow rows number row → session_in row.held_by ≡ Some session → last session.identity.number ≡ Some session
out_of_row rows made number row session last law are has keeps =
    let own = ap (λ w. w.number) (law.own number row session has keeps) in ap last own ∙ are.same number row session has keeps

out_displaced : {E P : Type 0} (newcomers : Newcomers) (old new : Books E P) (client : List ℕ) (connection : ℕ) (session ended : Session E P) (last : ℕ → Option (Session E P)) (out : Session E P)
    → DeskLaw old.rows old.made → AreLast old.rows last → Displaces newcomers old client connection session ended new → ended ≡ out → last out.identity.number ≡ Some out
out_displaced newcomers old new client connection session ended last out law are h is =
    subst (λ s. last s.identity.number ≡ Some s) is (out_of_row old.rows old.made h.number h.row ended last law are h.goes.longest.has (ap session_in h.goes.longest.stands))

out_client : {E P : Type 0} (newcomers : Newcomers) (old new : Books E P) (client : List ℕ) (request : Request) (answer : Result (Attached E P) DeskError) (last : ℕ → Option (Session E P)) (out : Session E P)
    → DeskLaw old.rows old.made → AreLast old.rows last → AttachesClient newcomers old client request answer new → IsOutBy answer out → last out.identity.number ≡ Some out
out_client newcomers old new client request (Ok (New session (Some ended))) last out law are (inl h) is =
    subst (λ s. last s.identity.number ≡ Some s) is (out_of_row old.rows old.made h.number h.row ended last law are h.its.has (ap session_in h.its.stands))
out_client newcomers old new client request (Ok (New session (Some ended))) last out law are (inr h) is =
    out_displaced newcomers old new client request.connection session ended last out law are h is
out_client newcomers old new client request (Ok (New session None)) last out law are h is = absurd is
out_client newcomers old new client request (Ok (Resumed session)) last out law are h is =
    subst (λ s. last s.identity.number ≡ Some s) is (out_of_row old.rows old.made h.number h.row session last law are h.its.has (ap session_in h.its.stands))
out_client newcomers old new client request (Ok (Replace holder)) last out law are h is = absurd is
out_client newcomers old new client request (Ok Busy) last out law are h is = absurd is
out_client newcomers old new client request (Err error) last out law are h is = absurd is

out_unnamed : {E P : Type 0} (newcomers : Newcomers) (old new : Books E P) (connection : ℕ) (answer : Result (Attached E P) DeskError) (last : ℕ → Option (Session E P)) (out : Session E P)
    → DeskLaw old.rows old.made → AreLast old.rows last → AttachesUnnamed newcomers old connection answer new → IsOutBy answer out → last out.identity.number ≡ Some out
out_unnamed newcomers old new connection (Ok (New session (Some ended))) last out law are h is =
    out_displaced newcomers old h.mid (assigned_name h.number) connection session ended last out law are h.begins is
out_unnamed newcomers old new connection (Ok (New session None)) last out law are h is = absurd is
out_unnamed newcomers old new connection (Ok (Resumed session)) last out law are h is = absurd h
out_unnamed newcomers old new connection (Ok (Replace holder)) last out law are h is = absurd is
out_unnamed newcomers old new connection (Ok Busy) last out law are h is = absurd is
out_unnamed newcomers old new connection (Err error) last out law are h is = absurd is

out_attach : {E P : Type 0} (newcomers : Newcomers) (client : List ℕ) (old new : Books E P) (request : Request) (answer : Result (Attached E P) DeskError) (last : ℕ → Option (Session E P)) (out : Session E P)
    → DeskLaw old.rows old.made → AreLast old.rows last → attaches_by newcomers client old request answer new → IsOutBy answer out → last out.identity.number ≡ Some out
out_attach newcomers [] old new request answer last out law are h is = out_unnamed newcomers old new request.connection answer last out law are h is
out_attach newcomers (byte ∷ bytes) old new request answer last out law are h is = out_client newcomers old new (byte ∷ bytes) request answer last out law are h is

out_swept : {E P : Type 0} (old new : Rows E P) (made : ℕ) (IsSo : Row E P → Type 0) (held_by : Holder E P) (session : Session E P) (last : ℕ → Option (Session E P))
    → DeskLaw old made → AreLast old last → session_in held_by ≡ Some session → HandsOut old IsSo held_by new → last session.identity.number ≡ Some session
out_swept old new made IsSo held_by session last law are inside h =
    out_of_row old made h.number h.oldest.row session last law are h.oldest.has (ap session_in h.stood ∙ inside)

module _ {P : Type 0} (cell : P → ℕ) where
  out_call : {E : Type 0} (old new : Books E P) (call : Call E P) (last : ℕ → Option (Session E P)) (out : Session E P) → DeskLaw old.rows old.made → AreLast old.rows last
      → Makes cell old call new → TakesOut call out → last out.identity.number ≡ Some out
  out_call old new (Attach newcomers request answer) last out law are made is = out_attach newcomers request.client old new request answer last out law are made is
  out_call {E} old new (Sweep now (Some session)) last out law are made is =
      subst (λ s. last s.identity.number ≡ Some s) is
      (
      ⊎_elim
      (λ (h : HandsOut old.rows IsKept (Kept session) made.0). out_swept old.rows made.0 old.made IsKept (Kept session) session last law are refl h)
      (λ (h : NoRow old.rows IsKept × HandsOut old.rows (IsOverdue now) (Parked session) made.0).
      out_swept old.rows made.0 old.made (IsOverdue now) (Parked session) session last law are refl h.1)
      made.1
      )
  out_call old new _ last out law are made is = absurd is

or_none : {X : Type 0} (a : Option X) → option_or a None ≡ a
or_none None = refl
or_none (Some x) = refl

-- what comes out of a row of a desk is what was put in last, whatever calls were made
pub very_session : {E P : Type 0} (cell : P → ℕ) (b after : Books E P) (calls : List (Call E P)) (call : Call E P) (out : Session E P)
    → DeskLaw b.rows b.made → MakesAll cell new_books calls b → Makes cell b call after → TakesOut call out → last_in out.identity.number calls ≡ Some out
very_session cell b after calls call out law made next is =
    sym (or_none (last_in out.identity.number calls))
    ∙ out_call cell b after call (λ n. option_or (last_in n calls) None) out law (last_all cell new_books b calls (λ n. None) last_new made) next is
