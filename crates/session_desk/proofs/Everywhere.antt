-- What holds of everything at a desk: what each call does to it, and what it hands out.
use Rattle.std.proofs.Common.{◌≡◌, ◌≢◌, ℕ, ◌<◌, List, [], ◌∷◌, slice_set, Option, Some, None, Result, Ok, Err, refl, sym, ap, ◌∙◌, subst, ⊎_elim, inl, inr, IfSome}
use Rattle.std.specs.FinMap as map
use Rattle.session_desk.specs.declared.attached.Attached.{Attached}
use Rattle.session_desk.specs.declared.attached.Attached.TheVariants.{New, Resumed, Replace, Busy}
use Rattle.session_desk.specs.declared.error.DeskError.{DeskError}
use Rattle.session_desk.specs.declared.error.DeskError.TheVariants.{Full, NoPlace, Memory, NoName}
use Rattle.session_desk.specs.declared.session.Session.{Session}
use Rattle.session_desk.specs.declared.session.Membership.{Membership}
use Rattle.session_desk.specs.declared.session.Membership.TheVariants.{NotMember, Member, Leaving}
use Rattle.session_desk.specs.declared.row.Row.{Row}
use Rattle.session_desk.specs.declared.row.Holder.{Holder}
use Rattle.session_desk.specs.declared.row.Holder.TheVariants.{Lent, Parked, Kept}
use Rattle.member_window.specs.Contents.{held_of}
use Rattle.session_desk.specs.Sessions.{Who}
use Rattle.session_desk.specs.Rows.{Rows, HasRow, NoRow, IsKept, IsOverdue, session_in, away, new_row, with_holder, with_wait}
use Rattle.session_desk.specs.Books.{Books, new_books, new_session, after_new, after_end}
use Rattle.session_desk.specs.Places.{IsFreeAt, IsOwnCell, cell_at}
use Rattle.session_desk.specs.declared.newcomers.Newcomers.{Newcomers}
use Rattle.session_desk.specs.Names.{assigned_name}
use Rattle.session_desk.specs.Newcomers.{BeginsFirst, Displaces}
use Rattle.session_desk.specs.Attaching.{Request, AttachesClient, AttachesUnnamed, attaches_by}
use Rattle.session_desk.specs.Keeping.{parked_at, EndsLent, IsLent, freed}
use Rattle.session_desk.specs.Sweeping.{HandsOut}
use Rattle.session_desk.specs.Calls.{Call, Attach, Withdraw, Kicked, Park, ParkAsIs, Keep, Bury, Sweep, LendPlace, TakePlace, Makes, MakesAll}
use Rattle.session_desk.specs.Everywhere.{IfMember, IsEverywhere, GoesIn, AllGoIn, IsAttachedSo, ComesOut}
use Rattle.session_desk.proofs.Seen.{after_insert, after_remove}
use Rattle.session_desk.proofs.OneHand.{no_row}
use Rattle.session_desk.proofs.Cells.{still_held, also_held, none_free}

-- of each free place, by its cell
abbrev pub HoldsAt : {P : Type 0} → (ℕ → P → Type 0) → List (Option P) → Type 0
HoldsAt {P} FitsAt free = (cell : ℕ) (place : P) → IsFreeAt free cell place → FitsAt cell place

-- an answer to a connection leaves the free places as they are
free_client : {E P : Type 0} (newcomers : Newcomers) (old new : Books E P) (client : List ℕ) (request : Request) (answer : Result (Attached E P) DeskError) → AttachesClient newcomers old client request answer new
    → new.free ≡ old.free
free_client newcomers old new client request (Ok (New session None)) h = ap (λ b. b.free) h.after
free_client newcomers old new client request (Ok (New session (Some ended))) (inl h) = ap (λ b. b.free) h.after
free_client newcomers old new client request (Ok (New session (Some ended))) (inr h) = ap (λ b. b.free) h.after
free_client newcomers old new client request (Ok (Resumed session)) h = ap (λ b. b.free) h.after
free_client newcomers old new client request (Ok (Replace holder)) h = ap (λ b. b.free) h.after
free_client newcomers old new client request (Ok Busy) h = ap (λ b. b.free) h.1
free_client newcomers old new client request (Err Full) h = ap (λ b. b.free) h.2
free_client newcomers old new client request (Err Memory) h = ap (λ b. b.free) h.1
free_client newcomers old new client request (Err NoPlace) h = absurd h
free_client newcomers old new client request (Err NoName) h = absurd h

free_unnamed : {E P : Type 0} (newcomers : Newcomers) (old new : Books E P) (connection : ℕ) (answer : Result (Attached E P) DeskError) → AttachesUnnamed newcomers old connection answer new → new.free ≡ old.free
free_unnamed newcomers old new connection (Ok (New session None)) h = ap (λ b. b.free) h.after ∙ ap (λ b. b.free) h.begins.after
free_unnamed newcomers old new connection (Ok (New session (Some ended))) h = ap (λ b. b.free) h.after ∙ ap (λ b. b.free) h.begins.after
free_unnamed newcomers old new connection (Ok (Resumed session)) h = absurd h
free_unnamed newcomers old new connection (Ok (Replace holder)) h = absurd h
free_unnamed newcomers old new connection (Ok Busy) h = absurd h
free_unnamed newcomers old new connection (Err Full) h = ap (λ b. b.free) h.2
free_unnamed newcomers old new connection (Err Memory) h = ap (λ b. b.free) h.2
free_unnamed newcomers old new connection (Err NoPlace) h = absurd h
free_unnamed newcomers old new connection (Err NoName) h = ap (λ b. b.free) h.1

free_attach : {E P : Type 0} (newcomers : Newcomers) (client : List ℕ) (old new : Books E P) (request : Request) (answer : Result (Attached E P) DeskError) → attaches_by newcomers client old request answer new
    → new.free ≡ old.free
free_attach newcomers [] old new request answer h = free_unnamed newcomers old new request.connection answer h
free_attach newcomers (byte ∷ bytes) old new request answer h = free_client newcomers old new (byte ∷ bytes) request answer h

module _ {E P : Type 0} (Holds : Session E P → Type 0) (Fits : P → Type 0) (cell : P → ℕ) (FitsAt : ℕ → P → Type 0) (at : (place : P) → Fits place → FitsAt (cell place) place)
    (frees : (session : Session E P) → Holds session → held_of session.window ≡ [] → IfMember Fits session.membership) where
  -- the same cells
  same_free : (old new : List (Option P)) → new ≡ old → HoldsAt FitsAt old → HoldsAt FitsAt new
  same_free old new same held = subst (HoldsAt FitsAt) (sym same) held

  freed_held : (membership : Membership P) (free : List (Option P)) → IfMember Fits membership → HoldsAt FitsAt free → HoldsAt FitsAt (freed cell free membership)
  freed_held NotMember free fits held = held
  freed_held (Member place) free fits held = also_held FitsAt free (cell place) place held (at place fits)
  freed_held (Leaving place) free fits held = also_held FitsAt free (cell place) place held (at place fits)

  -- each call
  pub free_call : (old new : Books E P) (call : Call E P) → Makes cell old call new → GoesIn Holds Fits call → HoldsAt FitsAt old.free → HoldsAt FitsAt new.free
  free_call old new (Attach newcomers request answer) made going held = same_free old.free new.free (free_attach newcomers request.client old new request answer made) held
  free_call old new (Withdraw connection) made going held = same_free old.free new.free (ap (λ b. b.free) made) held
  free_call old new (Kicked connection answer) made going held = same_free old.free new.free (ap (λ b. b.free) made.1) held
  free_call old new (Park session now None) made going held = same_free old.free new.free (ap (λ b. b.free) made.after) held
  free_call old new (Park session now (Some back)) made going held =
      same_free old.free new.free (⊎_elim (λ (h : EndsLent old session new). ap (λ b. b.free) h.after) (λ (h : (IsLent old session → ⊥) × (new ≡ old)). ap (λ b. b.free) h.1) made.1) held
  free_call old new (ParkAsIs session None) made going held = same_free old.free new.free (ap (λ b. b.free) made.after) held
  free_call old new (ParkAsIs session (Some back)) made going held = same_free old.free new.free (ap (λ b. b.free) made.2) held
  free_call old new (Keep session None) made going held = same_free old.free new.free (ap (λ b. b.free) made.after) held
  free_call old new (Keep session (Some back)) made going held = same_free old.free new.free (ap (λ b. b.free) made.2) held
  free_call old new (Bury session None) made going held =
      same_free (freed cell old.free session.membership) new.free (ap (λ b. b.free) made.1) (freed_held session.membership old.free (frees session going made.0.empty) held)
  free_call old new (Bury session (Some back)) made going held = same_free old.free new.free (ap (λ b. b.free) made.2) held
  free_call old new (Sweep now answer) made going held = same_free old.free new.free (ap (λ b. b.free) made.2) held
  free_call old new (LendPlace slot None) made going held = same_free old.free new.free (ap (λ b. b.free) made.2 ∙ made.1.1) held
  free_call old new (LendPlace slot (Some place)) made going held =
      same_free (slice_set old.free made.1.0 None) new.free (ap (λ b. b.free) made.2 ∙ made.1.3) (still_held FitsAt old.free made.1.0 held)
  free_call old new (TakePlace place None) made going held =
      same_free (slice_set old.free (cell place) (Some place)) new.free (ap (λ b. b.free) made.2 ∙ made.1.1) (also_held FitsAt old.free (cell place) place held (at place going))
  free_call old new (TakePlace place (Some back)) made going held = same_free old.free new.free (ap (λ b. b.free) made.2 ∙ made.1.2) held

  -- all calls
  pub free_all : (old new : Books E P) (calls : List (Call E P)) → MakesAll cell old calls new → AllGoIn Holds Fits calls → HoldsAt FitsAt old.free → HoldsAt FitsAt new.free
  free_all old new [] made going held = same_free old.free new.free (ap (λ b. b.free) made) held
  free_all old new (call ∷ calls) made going held = free_all made.1.0 new calls made.1.2 going.1 (free_call old made.1.0 call made.1.1 going.0 held)

-- a place whose number is small lies in its own cell
pub own_at : {P : Type 0} (slot_of number_of : P → ℕ) (place : P) → number_of place < 32 → IsOwnCell slot_of number_of (cell_at (slot_of place) (number_of place)) place
own_at slot_of number_of place small = record { at = refl; small = small }

none_some : {A : Type 0} (a : A) → None ≡ Some a → ⊥
none_some a e = cc

one_session : {E P : Type 0} (a b : Session E P) → Some a ≡ Some b → a ≡ b
one_session a b e = cc

module _ {E P : Type 0} (Holds : Session E P → Type 0) (Fits : P → Type 0) (begins : (who : Who) → Holds (new_session who))
    (timeless : (session : Session E P) (now : ℕ) → Holds session → Holds (parked_at session now))
    (frees : (session : Session E P) → Holds session → held_of session.window ≡ [] → IfMember Fits session.membership) where
  -- of each session that is kept
  abbrev InRows : Rows E P → Type 0
  InRows rows = (number : ℕ) (row : Row E P) (session : Session E P) → HasRow rows number row → session_in row.held_by ≡ Some session → Holds session

  -- a row changes, to one without a session, or with one that is so
  moves : (rows : Rows E P) (k : ℕ) (after : Row E P) → InRows rows → ((session : Session E P) → session_in after.held_by ≡ Some session → Holds session) → InRows (map.insert rows k after)
  moves rows k after inside new n row session there has =
      ⊎_elim
      (λ (here : (n ≡ k) × (after ≡ row)). new session (ap (λ r. session_in r.held_by) here.1 ∙ has))
      (λ (old : (n ≢ k) × HasRow rows n row). inside n row session old.1 has)
      (after_insert rows k n after row there)

  empties : (rows : Rows E P) (k : ℕ) (after : Row E P) → InRows rows → session_in after.held_by ≡ None → InRows (map.insert rows k after)
  empties rows k after inside none = moves rows k after inside (λ session has. absurd (none_some session (sym none ∙ has)))

  fills : (rows : Rows E P) (k : ℕ) (after : Row E P) (session : Session E P) → InRows rows → session_in after.held_by ≡ Some session → Holds session → InRows (map.insert rows k after)
  fills rows k after session inside has so = moves rows k after inside (λ other is. subst Holds (one_session session other (sym has ∙ is)) so)

  removes : (rows : Rows E P) (k : ℕ) → InRows rows → InRows (map.remove rows k)
  removes rows k inside n row session there has = inside n row session (after_remove rows k n row there).1 has

  same_rows : (old new : Rows E P) → new ≡ old → InRows old → InRows new
  same_rows old new same inside = subst InRows (sym same) inside

  fresh : (who : Who) (session : Session E P) → session ≡ new_session who → Holds session
  fresh who session is = subst Holds (sym is) (begins who)

  handed_back : (session back : Session E P) → back ≡ session → Holds session → Holds back
  handed_back session back is so = subst Holds (sym is) so

  -- a new session begins where another's ends
  ends_for : (old new : Books E P) (client : List ℕ) (connection number : ℕ) (row : Row E P) (session ended : Session E P) → HasRow old.rows number row → row.held_by ≡ Parked ended
      → session ≡ new_session (record { number = old.made; client = client }) → new ≡ after_new (after_end old number row) client connection
      → InRows old.rows → InRows new.rows × (Holds session × IfSome (Some ended) Holds)
  ends_for old new client connection number row session ended has stands is after inside =
      let mid : Rows E P = map.insert old.rows number (away row.client) in (
        same_rows (map.insert mid old.made (new_row client connection)) new.rows (ap (λ b. b.rows) after)
            (empties mid old.made (new_row client connection) (empties old.rows number (away row.client) inside refl) refl),
        (fresh (record { number = old.made; client = client }) session is, inside number row ended has (ap session_in stands)),
      )

  begins_first : (newcomers : Newcomers) (old new : Books E P) (client : List ℕ) (connection : ℕ) (session : Session E P) → BeginsFirst newcomers old client connection session new
      → InRows old.rows → InRows new.rows × (Holds session × IfSome None Holds)
  begins_first newcomers old new client connection session h inside = (
    same_rows (map.insert old.rows old.made (new_row client connection)) new.rows (ap (λ b. b.rows) h.after)
        (empties old.rows old.made (new_row client connection) inside refl),
    (fresh (record { number = old.made; client = client }) session h.is, tt),
  )

  displaces : (newcomers : Newcomers) (old new : Books E P) (client : List ℕ) (connection : ℕ) (session ended : Session E P) → Displaces newcomers old client connection session ended new
      → InRows old.rows → InRows new.rows × (Holds session × IfSome (Some ended) Holds)
  displaces newcomers old new client connection session ended h inside =
      ends_for old new client connection h.number h.row session ended h.goes.longest.has h.goes.longest.stands h.is h.after inside

  -- an answer to a connection: the rows then, and what it hands out
  attach_client : (newcomers : Newcomers) (old new : Books E P) (client : List ℕ) (request : Request) (answer : Result (Attached E P) DeskError) → AttachesClient newcomers old client request answer new
      → InRows old.rows → InRows new.rows × IsAttachedSo Holds Fits answer
  attach_client newcomers old new client request (Ok (New session None)) h inside = begins_first newcomers old new client request.connection session h inside
  attach_client newcomers old new client request (Ok (New session (Some ended))) (inl h) inside =
      ends_for old new client request.connection h.number h.row session ended h.its.has h.its.stands h.is h.after inside
  attach_client newcomers old new client request (Ok (New session (Some ended))) (inr h) inside = displaces newcomers old new client request.connection session ended h inside
  attach_client newcomers old new client request (Ok (Resumed session)) h inside = (
    same_rows (map.insert old.rows h.number (with_holder h.row (Lent request.connection))) new.rows (ap (λ b. b.rows) h.after)
        (empties old.rows h.number (with_holder h.row (Lent request.connection)) inside refl),
    inside h.number h.row session h.its.has (ap session_in h.its.stands),
  )
  attach_client newcomers old new client request (Ok (Replace holder)) h inside = (
    same_rows (map.insert old.rows h.number (with_wait h.row request.connection)) new.rows (ap (λ b. b.rows) h.after)
        (empties old.rows h.number (with_wait h.row request.connection) inside (ap session_in h.its.stands)),
    tt,
  )
  attach_client newcomers old new client request (Ok Busy) h inside = (same_rows old.rows new.rows (ap (λ b. b.rows) h.1) inside, tt)
  attach_client newcomers old new client request (Err Full) h inside = (same_rows old.rows new.rows (ap (λ b. b.rows) h.2) inside, tt)
  attach_client newcomers old new client request (Err Memory) h inside = (same_rows old.rows new.rows (ap (λ b. b.rows) h.1) inside, tt)
  attach_client newcomers old new client request (Err NoPlace) h inside = absurd h
  attach_client newcomers old new client request (Err NoName) h inside = absurd h

  attach_unnamed : (newcomers : Newcomers) (old new : Books E P) (connection : ℕ) (answer : Result (Attached E P) DeskError) → AttachesUnnamed newcomers old connection answer new
      → InRows old.rows → InRows new.rows × IsAttachedSo Holds Fits answer
  attach_unnamed newcomers old new connection (Ok (New session None)) h inside =
      let first = begins_first newcomers old h.mid (assigned_name h.number) connection session h.begins inside in (same_rows h.mid.rows new.rows (ap (λ b. b.rows) h.after) first.0, first.1)
  attach_unnamed newcomers old new connection (Ok (New session (Some ended))) h inside =
      let first = displaces newcomers old h.mid (assigned_name h.number) connection session ended h.begins inside in (same_rows h.mid.rows new.rows (ap (λ b. b.rows) h.after) first.0, first.1)
  attach_unnamed newcomers old new connection (Ok (Resumed session)) h inside = absurd h
  attach_unnamed newcomers old new connection (Ok (Replace holder)) h inside = absurd h
  attach_unnamed newcomers old new connection (Ok Busy) h inside = absurd h
  attach_unnamed newcomers old new connection (Err Full) h inside = (same_rows old.rows new.rows (ap (λ b. b.rows) h.2) inside, tt)
  attach_unnamed newcomers old new connection (Err Memory) h inside = (same_rows old.rows new.rows (ap (λ b. b.rows) h.2) inside, tt)
  attach_unnamed newcomers old new connection (Err NoPlace) h inside = absurd h
  attach_unnamed newcomers old new connection (Err NoName) h inside = (same_rows old.rows new.rows (ap (λ b. b.rows) h.1) inside, tt)

  attach : (newcomers : Newcomers) (client : List ℕ) (old new : Books E P) (request : Request) (answer : Result (Attached E P) DeskError) → attaches_by newcomers client old request answer new
      → InRows old.rows → InRows new.rows × IsAttachedSo Holds Fits answer
  attach newcomers [] old new request answer h inside = attach_unnamed newcomers old new request.connection answer h inside
  attach newcomers (byte ∷ bytes) old new request answer h inside = attach_client newcomers old new (byte ∷ bytes) request answer h inside

  -- a sweep hands out a session
  sweeps : (old new : Rows E P) (IsOne : Row E P → Type 0) (held_by : Holder E P) (session : Session E P) → session_in held_by ≡ Some session → HandsOut old IsOne held_by new
      → InRows old → InRows new × Holds session
  sweeps old new IsOne held_by session has h inside = (
    same_rows (map.insert old h.number (away h.oldest.row.client)) new h.after (empties old h.number (away h.oldest.row.client) inside refl),
    inside h.number h.oldest.row session h.oldest.has (ap session_in h.stood ∙ has),
  )

  module _ (cell : P → ℕ) where
    -- each call
    call_rows : (old new : Books E P) (call : Call E P) → Makes cell old call new → IsEverywhere Holds Fits old → GoesIn Holds Fits call → InRows new.rows × ComesOut Holds Fits call
    call_rows old new (Attach newcomers request answer) made so going = attach newcomers request.client old new request answer made so.sessions
    call_rows old new (Withdraw connection) made so going = (same_rows old.rows new.rows (ap (λ b. b.rows) made) so.sessions, tt)
    call_rows old new (Kicked connection answer) made so going = (same_rows old.rows new.rows (ap (λ b. b.rows) made.1) so.sessions, tt)
    call_rows old new (Park session now None) made so going = (
      same_rows (map.insert old.rows session.identity.number (with_holder made.lent.row (Parked (parked_at session now)))) new.rows (ap (λ b. b.rows) made.after)
          (fills old.rows session.identity.number (with_holder made.lent.row (Parked (parked_at session now))) (parked_at session now) so.sessions refl (timeless session now going)),
      tt,
    )
    call_rows old new (Park session now (Some back)) made so going = (
      ⊎_elim
          (λ (h : EndsLent old session new).
          same_rows (map.insert old.rows session.identity.number (away h.lent.row.client)) new.rows (ap (λ b. b.rows) h.after)
          (empties old.rows session.identity.number (away h.lent.row.client) so.sessions refl))
          (λ (h : (IsLent old session → ⊥) × (new ≡ old)). same_rows old.rows new.rows (ap (λ b. b.rows) h.1) so.sessions)
          made.1,
      handed_back session back made.0 going,
    )
    call_rows old new (ParkAsIs session None) made so going = (
      same_rows (map.insert old.rows session.identity.number (with_holder made.lent.row (Parked session))) new.rows (ap (λ b. b.rows) made.after)
          (fills old.rows session.identity.number (with_holder made.lent.row (Parked session)) session so.sessions refl going),
      tt,
    )
    call_rows old new (ParkAsIs session (Some back)) made so going = (same_rows old.rows new.rows (ap (λ b. b.rows) made.2) so.sessions, handed_back session back made.0 going)
    call_rows old new (Keep session None) made so going = (
      same_rows (map.insert old.rows session.identity.number (with_holder made.gone.row (Kept session))) new.rows (ap (λ b. b.rows) made.after)
          (fills old.rows session.identity.number (with_holder made.gone.row (Kept session)) session so.sessions refl going),
      tt,
    )
    call_rows old new (Keep session (Some back)) made so going = (same_rows old.rows new.rows (ap (λ b. b.rows) made.2) so.sessions, handed_back session back made.0 going)
    call_rows old new (Bury session None) made so going = (
      same_rows (map.remove old.rows session.identity.number) new.rows (ap (λ b. b.rows) made.1) (removes old.rows session.identity.number so.sessions),
      tt,
    )
    call_rows old new (Bury session (Some back)) made so going = (same_rows old.rows new.rows (ap (λ b. b.rows) made.2) so.sessions, handed_back session back made.0 going)
    call_rows old new (Sweep now None) made so going = (same_rows old.rows new.rows (ap (λ b. b.rows) made.2 ∙ made.1.2) so.sessions, tt)
    call_rows old new (Sweep now (Some session)) made so going =
        let swept = ⊎_elim
        (λ (h : HandsOut old.rows IsKept (Kept session) made.0). sweeps old.rows made.0 IsKept (Kept session) session refl h so.sessions)
        (λ (h : NoRow old.rows IsKept × HandsOut old.rows (IsOverdue now) (Parked session) made.0). sweeps old.rows made.0 (IsOverdue now) (Parked session) session refl h.1 so.sessions)
        made.1 in (
          same_rows made.0 new.rows (ap (λ b. b.rows) made.2) swept.0,
          swept.1,
        )
    call_rows old new (LendPlace slot None) made so going = (same_rows old.rows new.rows (ap (λ b. b.rows) made.2) so.sessions, tt)
    call_rows old new (LendPlace slot (Some place)) made so going = (
      same_rows old.rows new.rows (ap (λ b. b.rows) made.2) so.sessions,
      subst Fits (sym made.1.2) (so.places made.1.0 made.1.1.place made.1.1.is_free),
    )
    call_rows old new (TakePlace place None) made so going = (same_rows old.rows new.rows (ap (λ b. b.rows) made.2) so.sessions, tt)
    call_rows old new (TakePlace place (Some back)) made so going = (same_rows old.rows new.rows (ap (λ b. b.rows) made.2) so.sessions, subst Fits (sym made.1.0) going)

    pub onward : (old new : Books E P) (call : Call E P) → Makes cell old call new → IsEverywhere Holds Fits old → GoesIn Holds Fits call → IsEverywhere Holds Fits new
    onward old new call made so going =
        record {
          sessions = (call_rows old new call made so going).0;
          places = free_call Holds Fits cell (λ _ place. Fits place) (λ place fits. fits) frees old new call made going so.places;
        }

    pub out : (old new : Books E P) (call : Call E P) → Makes cell old call new → IsEverywhere Holds Fits old → GoesIn Holds Fits call → ComesOut Holds Fits call
    out old new call made so going = (call_rows old new call made so going).1

-- a new desk has nothing
pub nothing : {E P : Type 0} (Holds : Session E P → Type 0) (Fits : P → Type 0) → IsEverywhere Holds Fits new_books
nothing Holds Fits = record { sessions = λ number row session has inside. absurd (no_row number row has); places = λ cell place has. absurd (none_free 256 cell place has) }
