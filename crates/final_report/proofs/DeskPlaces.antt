-- A desk loses no place and makes none: what one call does, and then what all calls do.
use Rattle.std.proofs.Common.{◌≡◌, ℕ, ◌+◌, cond, List, [], ◌∷◌, ◌++◌, slice_get, slice_set, replicate, sum_by, Option, Some, None, Result, Ok, Err, refl, sym, ap, ◌∙◌, subst, ⊎_elim, arith}
use Rattle.std.proofs.lemmas.List.Folds.{sum_by-replicate}
use Rattle.std.proofs.lemmas.List.Sums.{sum_by-append, sum_by-cons, sum_by-set}
use Rattle.std.proofs.lemmas.Option.{get_or_from_slice_get, slice_get_within}
use Rattle.std.proofs.lemmas.Bool.{cases_eq}
use Rattle.std.specs.Ordering.{nat_cmp, is_eq}
use Rattle.std.specs.declared.cmp.Ordering.{Ordering}
use Rattle.std.specs.declared.cmp.Ordering.TheVariants.{Less, Equal, Greater}
use Rattle.std.specs.Cmp.{nat_cmp_total}
use Rattle.std.specs.FinMap as map
use Rattle.std.specs.FinMap.{get-entries, entries-insert, len-entries, len-empty, same_map, nat_cmp-IsAntisymmetric}
use Rattle.std.specs.FinMap.Entries.{by_order}
use Rattle.session_desk.specs.declared.attached.Attached.{Attached}
use Rattle.session_desk.specs.declared.attached.Attached.TheVariants.{New, Resumed, Replace, Busy}
use Rattle.session_desk.specs.declared.error.DeskError.{DeskError}
use Rattle.session_desk.specs.declared.error.DeskError.TheVariants.{Full, NoPlace, Memory, NoName}
use Rattle.session_desk.specs.declared.session.Session.{Session}
use Rattle.session_desk.specs.declared.session.Membership.{Membership}
use Rattle.session_desk.specs.declared.session.Membership.TheVariants.{NotMember, Member, Leaving}
use Rattle.session_desk.specs.declared.row.Row.{Row}
use Rattle.session_desk.specs.declared.row.Holder.{Holder}
use Rattle.session_desk.specs.declared.row.Holder.TheVariants.{Lent, Parked, Kept}
use Rattle.session_desk.specs.Rows.{Rows, HasRow, NoRow, IsKept, IsOverdue, session_in, away, new_row, with_holder, with_wait}
use Rattle.session_desk.specs.Books.{Books, new_books, new_session}
use Rattle.session_desk.specs.declared.newcomers.Newcomers.{Newcomers}
use Rattle.session_desk.proofs.Begun.{Begun, BegunOver, begun, begun_over}
use Rattle.session_desk.specs.Attaching.{Request, AttachesClient, AttachesUnnamed, attaches_by}
use Rattle.session_desk.specs.Keeping.{EndsLent, IsLent, HasCell, freed, parked_at}
use Rattle.session_desk.specs.Sweeping.{HandsOut}
use Rattle.session_desk.specs.Calls.{Call, Attach, Withdraw, Kicked, Park, ParkAsIs, Keep, Bury, Sweep, LendPlace, TakePlace, Makes, MakesAll}
use Rattle.session_desk.specs.Everything.{place_in, place_of, free_in, places_given, ArePlaces}
use Rattle.session_desk.specs.Hands.{DeskLaw}
use Rattle.session_desk.proofs.Seen.{insert_here, insert_other, remove_here, remove_other, no_length}
use Rattle.session_desk.proofs.Kept.{none_of}
use Rattle.session_desk.proofs.OneHand.{law_all, law_new}
use Rattle.final_report.specs.DeskPlaces.{places_out, places_in}

module _ {X : Type 0} where
  -- to write an entry is to take it out and to put it in
  written_anew : (m : map.FinMap nat_cmp X) (k : ℕ) (v : X) → map.insert (map.remove m k) k v ≡ map.insert m k v
  written_anew m k v = same_map nat_cmp_total nat_cmp-IsAntisymmetric _ _ (λ q.
      ⊎_elim
      (λ (is : q ≡ k). ap (map.get (map.insert (map.remove m k) k v)) is ∙ insert_here (map.remove m k) k v ∙ sym (ap (map.get (map.insert m k v)) is ∙ insert_here m k v))
      (λ (isnt : q ≡ k → ⊥). insert_other (map.remove m k) k q v isnt ∙ remove_other m k q isnt ∙ sym (insert_other m k q v isnt))
      (cases_eq q k))

  -- and to write what is there changes nothing
  written_same : (m : map.FinMap nat_cmp X) (k : ℕ) (v : X) → map.get m k ≡ Some v → map.insert m k v ≡ m
  written_same m k v has = same_map nat_cmp_total nat_cmp-IsAntisymmetric _ _ (λ q.
      ⊎_elim
      (λ (is : q ≡ k). ap (map.get (map.insert m k v)) is ∙ insert_here m k v ∙ sym (ap (map.get m) is ∙ has))
      (λ (isnt : q ≡ k → ⊥). insert_other m k q v isnt)
      (cases_eq q k))

-- A sum over the entries of a finite map, where one of them is new, gone or written.
module _ {X : Type 0} (F : ℕ × X → ℕ) where
  -- an entry with a new key, by how its key stands to that of the first
  put_by : (k : ℕ) (v : X) (e : ℕ × X) (es : List (ℕ × X)) → map.find nat_cmp k (e ∷ es) ≡ None
      → (map.find nat_cmp k es ≡ None → sum_by F (map.put nat_cmp k v es) ≡ F (k, v) + sum_by F es) → (o : Ordering) → nat_cmp k e.0 ≡ o
      → sum_by F (by_order o ((k, v) ∷ e ∷ es) ((e.0, v) ∷ es) (e ∷ map.put nat_cmp k v es)) ≡ F (k, v) + sum_by F (e ∷ es)
  put_by k v e es none more Less p = sum_by-cons F (k, v) (e ∷ es)
  put_by k v e es none more Equal p = absurd (let found = ap (λ o. cond (is_eq o) (Some e.1) (map.find nat_cmp k es)) p in cc)
  put_by k v e es none more Greater p =
      let rest = more (sym (ap (λ o. cond (is_eq o) (Some e.1) (map.find nat_cmp k es)) p) ∙ none) in
      omega (arith, rest, sum_by-cons F e (map.put nat_cmp k v es), sum_by-cons F e es)

  -- an entry with a new key is put among the others
  sum_put : (k : ℕ) (v : X) (es : List (ℕ × X)) → map.find nat_cmp k es ≡ None → sum_by F (map.put nat_cmp k v es) ≡ F (k, v) + sum_by F es
  sum_put k v [] none = omega arith
  sum_put k v (e ∷ es) none = put_by k v e es none (λ p. sum_put k v es p) (nat_cmp k e.0) refl

  -- it is put into a map
  sum_begun : (m : map.FinMap nat_cmp X) (k : ℕ) (v : X) → map.get m k ≡ None → sum_by F (map.entries (map.insert m k v)) ≡ F (k, v) + sum_by F (map.entries m)
  sum_begun m k v none = ap (sum_by F) (entries-insert nat_cmp_total m k v) ∙ sum_put k v (map.entries m) (sym (get-entries m k) ∙ none)

  -- an entry is written, where there was one or none
  sum_written : (m : map.FinMap nat_cmp X) (k : ℕ) (v : X) → sum_by F (map.entries (map.insert m k v)) ≡ F (k, v) + sum_by F (map.entries (map.remove m k))
  sum_written m k v = ap (λ n. sum_by F (map.entries n)) (sym (written_anew m k v)) ∙ sum_begun (map.remove m k) k v (remove_here m k)

  -- an entry that is there is taken out
  sum_removed : (m : map.FinMap nat_cmp X) (k : ℕ) (v : X) → map.get m k ≡ Some v → sum_by F (map.entries m) ≡ F (k, v) + sum_by F (map.entries (map.remove m k))
  sum_removed m k v has = ap (λ n. sum_by F (map.entries n)) (sym (written_same m k v has)) ∙ sum_written m k v

module _ {P : Type 0} (measure : P → ℕ) where
  -- by a measure of the places, what a desk has in the hands in which a session is
  abbrev in_hands : {E : Type 0} → Holder E P → ℕ
  in_hands held_by = sum_by measure (place_of (session_in held_by))

  -- in a row, and in all rows
  abbrev in_entry : {E : Type 0} → ℕ × Row E P → ℕ
  in_entry entry = in_hands entry.1.held_by

  abbrev in_rows : {E : Type 0} → Rows E P → ℕ
  in_rows rows = sum_by in_entry (map.entries rows)

  -- and free
  abbrev in_cells : List (Option P) → ℕ
  in_cells free = sum_by (λ cell. sum_by measure (free_in cell)) free

  -- one cell is written
  cell_written : (free : List (Option P)) (cell : ℕ) (before after : Option P) → slice_get free cell ≡ Some before
      → in_cells (slice_set free cell after) + sum_by measure (free_in before) ≡ in_cells free + sum_by measure (free_in after)
  cell_written free cell before after has =
      let f : Option P → ℕ = λ place. sum_by measure (free_in place) in
      omega (arith, sum_by-set f free cell after before (slice_get_within free cell before has), ap f (get_or_from_slice_get free cell before before has))

  -- the place of a session that is buried is free
  freed_is : (cell : P → ℕ) (free : List (Option P)) (membership : Membership P) → HasCell cell free membership → in_cells free + sum_by measure (place_in membership) ≡ in_cells (freed cell free membership)
  freed_is cell free NotMember room = omega arith
  freed_is cell free (Member place) room = omega (arith, cell_written free (cell place) None (Some place) room)
  freed_is cell free (Leaving place) room = omega (arith, cell_written free (cell place) None (Some place) room)

  -- a new desk has no place
  none_in_rows : (E : Type 0) → in_rows {E = E} map.empty ≡ 0
  none_in_rows E =
      ap (sum_by in_entry) (no_length (map.entries map.empty) (sym (len-entries (map.empty {X = Row E P} {R = nat_cmp})) ∙ len-empty nat_cmp (Row E P)))

  none_in_cells : in_cells (replicate 256 None) ≡ 0
  none_in_cells = omega (arith, sum_by-replicate (λ (place : Option P). sum_by measure (free_in place)) 256 None)

  module _ {E : Type 0} where
    -- what it had and was handed is what it has and handed out
    abbrev Balances : Books E P → Books E P → List P → List P → Type 0
    Balances old new ins outs = in_rows old.rows + in_cells old.free + sum_by measure ins ≡ in_rows new.rows + in_cells new.free + sum_by measure outs

    -- nothing moves, or what is handed in is handed back
    stays : (old new : Books E P) (ins outs : List P) → new ≡ old → outs ≡ ins → Balances old new ins outs
    stays old new ins outs same back = omega (arith, ap (λ b. in_rows b.rows) same, ap (λ b. in_cells b.free) same, ap (sum_by measure) back)

    -- the rows change
    rows_change : (old new : Books E P) (rows : Rows E P) (ins outs : List P) → new.rows ≡ rows → new.free ≡ old.free
        → in_rows old.rows + sum_by measure ins ≡ in_rows rows + sum_by measure outs → Balances old new ins outs
    rows_change old new rows ins outs after same moved = omega (arith, ap in_rows after, ap in_cells same, moved)

    -- the free places change
    cells_change : (old new : Books E P) (free : List (Option P)) (ins outs : List P) → new.rows ≡ old.rows → new.free ≡ free
        → in_cells old.free + sum_by measure ins ≡ in_cells free + sum_by measure outs → Balances old new ins outs
    cells_change old new free ins outs same after moved = omega (arith, ap in_rows same, ap in_cells after, moved)

    -- one row is written
    row_written : (rows : Rows E P) (k : ℕ) (before after : Row E P) → HasRow rows k before → in_rows (map.insert rows k after) + in_hands before.held_by ≡ in_rows rows + in_hands after.held_by
    row_written rows k before after has =
        omega (arith, sum_written in_entry rows k after, sum_removed in_entry rows k before has)

    moves : (old new : Books E P) (k : ℕ) (before after : Row E P) (ins outs : List P) → HasRow old.rows k before → new.rows ≡ map.insert old.rows k after → new.free ≡ old.free
        → in_hands before.held_by + sum_by measure ins ≡ in_hands after.held_by + sum_by measure outs → Balances old new ins outs
    moves old new k before after ins outs has written same moved =
        rows_change old new (map.insert old.rows k after) ins outs written same (omega (arith, row_written old.rows k before after has, moved))

    -- the number of the next session is no session's
    no_row : (rows : Rows E P) (made : ℕ) → DeskLaw rows made → map.get rows made ≡ None
    no_row rows made law = none_of (map.get rows made) (λ row has. let less = law.made_before made row has in omega arith)

    -- a new session has no place
    begins : (made : ℕ) (rows : Rows E P) (client : List ℕ) (connection : ℕ) (session : Session E P) → session ≡ new_session (record { number = made; client = client }) → map.get rows made ≡ None
        → (in_rows (map.insert rows made (new_row client connection)) ≡ in_rows rows) × (sum_by measure (place_in session.membership) ≡ 0)
    begins made rows client connection session is none =
        (omega (arith, sum_begun in_entry rows made (new_row client connection) none), ap (λ (s : Session E P). sum_by measure (place_in s.membership)) is)

    balances_begun : (old new : Books E P) (connection : ℕ) (session : Session E P) → DeskLaw old.rows old.made → Begun old connection session new
        → Balances old new [] (place_in session.membership ++ [])
    balances_begun old new connection session law h =
        let begun_so = begins old.made old.rows h.client connection session h.is (no_row old.rows old.made law) in
        rows_change old new (map.insert old.rows old.made (new_row h.client connection)) [] (place_in session.membership ++ []) h.rows h.free
        (omega (arith, begun_so.0, begun_so.1, sum_by-append measure (place_in session.membership) []))

    balances_over : (old new : Books E P) (connection : ℕ) (session ended : Session E P) → DeskLaw old.rows old.made → BegunOver old connection session ended new
        → Balances old new [] (place_in session.membership ++ place_in ended.membership)
    balances_over old new connection session ended law h =
        let mid : Rows E P = map.insert old.rows h.number (away h.row.client) in
        let none : map.get mid old.made ≡ None =
        insert_other old.rows h.number old.made (away h.row.client) (λ (e : old.made ≡ h.number). let less = law.made_before h.number h.row h.has in omega arith) ∙ no_row old.rows old.made law in
        let begun_so = begins old.made mid h.client connection session h.is none in
        let gone = row_written old.rows h.number h.row (away h.row.client) h.has in
        let stood = ap in_hands h.stands in
        rows_change old new (map.insert mid old.made (new_row h.client connection)) [] (place_in session.membership ++ place_in ended.membership) h.rows h.free
        (omega (arith, begun_so.0, begun_so.1, gone, stood, sum_by-append measure (place_in session.membership) (place_in ended.membership)))

    -- for a client with an identifier
    balances_client : (newcomers : Newcomers) (old new : Books E P) (byte : ℕ) (bytes : List ℕ) (request : Request) (answer : Result (Attached E P) DeskError) → DeskLaw old.rows old.made
        → AttachesClient newcomers old (byte ∷ bytes) request answer new → Balances old new [] (places_given answer)
    balances_client newcomers old new byte bytes request (Ok (New session None)) law h = balances_begun old new request.connection session law (begun newcomers old new request session (byte ∷ bytes) h)
    balances_client newcomers old new byte bytes request (Ok (New session (Some ended))) law h =
        balances_over old new request.connection session ended law (begun_over newcomers old new request session (byte ∷ bytes) ended h)
    balances_client newcomers old new byte bytes request (Ok (Resumed session)) law h =
        moves old new h.number h.row (with_holder h.row (Lent request.connection)) [] (place_in session.membership) h.its.has (ap (λ b. b.rows) h.after) (ap (λ b. b.free) h.after)
        (omega (arith, ap in_hands h.its.stands))
    balances_client newcomers old new byte bytes request (Ok (Replace holder)) law h =
        moves old new h.number h.row (with_wait h.row request.connection) [] [] h.its.has (ap (λ b. b.rows) h.after) (ap (λ b. b.free) h.after) refl
    balances_client newcomers old new byte bytes request (Ok Busy) law h = stays old new [] [] h.1 refl
    balances_client newcomers old new byte bytes request (Err Full) law h = stays old new [] [] h.2 refl
    balances_client newcomers old new byte bytes request (Err Memory) law h = stays old new [] [] h.1 refl
    balances_client newcomers old new byte bytes request (Err NoPlace) law h = absurd h
    balances_client newcomers old new byte bytes request (Err NoName) law h = absurd h

    -- for one without
    balances_unnamed : (newcomers : Newcomers) (old new : Books E P) (request : Request) (answer : Result (Attached E P) DeskError) → DeskLaw old.rows old.made
        → AttachesUnnamed newcomers old request.connection answer new → Balances old new [] (places_given answer)
    balances_unnamed newcomers old new request (Ok (New session None)) law h = balances_begun old new request.connection session law (begun newcomers old new request session [] h)
    balances_unnamed newcomers old new request (Ok (New session (Some ended))) law h = balances_over old new request.connection session ended law (begun_over newcomers old new request session [] ended h)
    balances_unnamed newcomers old new request (Ok (Resumed session)) law h = absurd h
    balances_unnamed newcomers old new request (Ok (Replace holder)) law h = absurd h
    balances_unnamed newcomers old new request (Ok Busy) law h = absurd h
    balances_unnamed newcomers old new request (Err Full) law h = stays old new [] [] h.2 refl
    balances_unnamed newcomers old new request (Err Memory) law h = stays old new [] [] h.2 refl
    balances_unnamed newcomers old new request (Err NoPlace) law h = absurd h
    balances_unnamed newcomers old new request (Err NoName) law h = stays old new [] [] h.1 refl

    balances_attach : (newcomers : Newcomers) (client : List ℕ) (old new : Books E P) (request : Request) (answer : Result (Attached E P) DeskError) → DeskLaw old.rows old.made
        → attaches_by newcomers client old request answer new → Balances old new [] (places_given answer)
    balances_attach newcomers [] old new request answer law h = balances_unnamed newcomers old new request answer law h
    balances_attach newcomers (byte ∷ bytes) old new request answer law h = balances_client newcomers old new byte bytes request answer law h

    -- a sweep hands a session out
    hands_out : (old new : Books E P) (IsSo : Row E P → Type 0) (held_by : Holder E P) (session : Session E P) → session_in held_by ≡ Some session → HandsOut old.rows IsSo held_by new.rows
        → new.free ≡ old.free → Balances old new [] (place_in session.membership)
    hands_out old new IsSo held_by session inside h same =
        let row = h.oldest.row in
        let within : session_in row.held_by ≡ Some session = ap session_in h.stood ∙ inside in
        moves old new h.number row (away row.client) [] (place_in session.membership) h.oldest.has h.after same (omega (arith, ap (λ (o : Option (Session E P)). sum_by measure (place_of o)) within))

    module _ (cell : P → ℕ) where
      -- each call
      balances : (old new : Books E P) (call : Call E P) → DeskLaw old.rows old.made → Makes cell old call new → Balances old new (places_in call) (places_out call)
      balances old new (Attach newcomers request answer) law made = balances_attach newcomers request.client old new request answer law made
      balances old new (Withdraw connection) law made = rows_change old new old.rows [] [] (ap (λ b. b.rows) made) (ap (λ b. b.free) made) refl
      balances old new (Kicked connection answer) law made = stays old new [] [] made.1 refl
      balances old new (Park session now None) law made =
          moves old new session.identity.number made.lent.row (with_holder made.lent.row (Parked (parked_at session now))) (place_in session.membership) [] made.lent.is_row.has
          (ap (λ b. b.rows) made.after) (ap (λ b. b.free) made.after) (omega (arith, ap in_hands made.lent.is_row.stands))
      balances old new (Park session now (Some back)) law made =
          let same = ap (λ (s : Session E P). place_in s.membership) made.0 in
          ⊎_elim
          (λ (h : EndsLent old session new).
          moves old new session.identity.number h.lent.row (away h.lent.row.client) (place_in session.membership) (place_in back.membership) h.lent.is_row.has (ap (λ b. b.rows) h.after) (ap (λ b. b.free) h.after)
          (omega (arith, ap in_hands h.lent.is_row.stands, ap (sum_by measure) same)))
          (λ (h : (IsLent old session → ⊥) × (new ≡ old)). stays old new (place_in session.membership) (place_in back.membership) h.1 same)
          made.1
      balances old new (ParkAsIs session None) law made =
          moves old new session.identity.number made.lent.row (with_holder made.lent.row (Parked session)) (place_in session.membership) [] made.lent.is_row.has
          (ap (λ b. b.rows) made.after) (ap (λ b. b.free) made.after) (omega (arith, ap in_hands made.lent.is_row.stands))
      balances old new (ParkAsIs session (Some back)) law made = stays old new (place_in session.membership) (place_in back.membership) made.2 (ap (λ (s : Session E P). place_in s.membership) made.0)
      balances old new (Keep session None) law made =
          moves old new session.identity.number made.gone.row (with_holder made.gone.row (Kept session)) (place_in session.membership) [] made.gone.is_row.has
          (ap (λ b. b.rows) made.after) (ap (λ b. b.free) made.after) (omega (arith, ap in_hands made.gone.is_row.stands))
      balances old new (Keep session (Some back)) law made = stays old new (place_in session.membership) (place_in back.membership) made.2 (ap (λ (s : Session E P). place_in s.membership) made.0)
      balances old new (Bury session None) law made =
          let is = made.0.gone.is_row in
          omega (
            arith,
            sum_removed in_entry old.rows session.identity.number made.0.gone.row is.has,
            ap in_hands is.stands,
            freed_is cell old.free session.membership made.0.room,
            ap (λ b. in_rows b.rows) made.1,
            ap (λ b. in_cells b.free) made.1,
          )
      balances old new (Bury session (Some back)) law made = stays old new (place_in session.membership) (place_in back.membership) made.2 (ap (λ (s : Session E P). place_in s.membership) made.0)
      balances old new (Sweep now None) law made = rows_change old new old.rows [] [] (ap (λ b. b.rows) made.2 ∙ made.1.2) (ap (λ b. b.free) made.2) refl
      balances old new (Sweep now (Some session)) law made =
          let rows : made.0 ≡ new.rows = sym (ap (λ b. b.rows) made.2) in
          ⊎_elim
          (λ (h : HandsOut old.rows IsKept (Kept session) made.0). hands_out old new IsKept (Kept session) session refl (subst (HandsOut old.rows IsKept (Kept session)) rows h) (ap (λ b. b.free) made.2))
          (λ (h : NoRow old.rows IsKept × HandsOut old.rows (IsOverdue now) (Parked session) made.0).
          hands_out old new (IsOverdue now) (Parked session) session refl (subst (HandsOut old.rows (IsOverdue now) (Parked session)) rows h.1) (ap (λ b. b.free) made.2))
          made.1
      balances old new (LendPlace slot None) law made = cells_change old new old.free [] [] (ap (λ b. b.rows) made.2) (ap (λ b. b.free) made.2 ∙ made.1.1) refl
      balances old new (LendPlace slot (Some place)) law made =
          let least = made.1.1 in
          cells_change old new (slice_set old.free made.1.0 None) [] (place ∷ []) (ap (λ b. b.rows) made.2) (ap (λ b. b.free) made.2 ∙ made.1.3)
          (omega (arith, cell_written old.free made.1.0 (Some least.place) None least.is_free, ap (λ p. sum_by measure (p ∷ [])) made.1.2))
      balances old new (TakePlace place None) law made =
          cells_change old new (slice_set old.free (cell place) (Some place)) (place ∷ []) [] (ap (λ b. b.rows) made.2) (ap (λ b. b.free) made.2 ∙ made.1.1)
          (omega (arith, cell_written old.free (cell place) None (Some place) made.1.0))
      balances old new (TakePlace place (Some back)) law made =
          cells_change old new old.free (place ∷ []) (back ∷ []) (ap (λ b. b.rows) made.2) (ap (λ b. b.free) made.2 ∙ made.1.2) (omega (arith, ap (λ p. sum_by measure (p ∷ [])) made.1.0))

      -- all calls
      balances_all : (old new : Books E P) (calls : List (Call E P)) → DeskLaw old.rows old.made → MakesAll cell old calls new
          → in_rows old.rows + in_cells old.free + sum_by (λ call. sum_by measure (places_in call)) calls
          ≡ in_rows new.rows + in_cells new.free + sum_by (λ call. sum_by measure (places_out call)) calls
      balances_all old new [] law made = omega (arith, ap (λ b. in_rows b.rows) made, ap (λ b. in_cells b.free) made)
      balances_all old new (call ∷ calls) law made =
          let mid = made.1.0 in
          omega (
            arith,
            balances old mid call law made.1.1,
            balances_all mid new calls (law_all cell old mid (call ∷ []) law (made.0, (mid, made.1.1, refl))) made.1.2,
            sum_by-cons (λ (call : Call E P). sum_by measure (places_in call)) call calls,
            sum_by-cons (λ (call : Call E P). sum_by measure (places_out call)) call calls,
          )

-- A desk loses no place and makes none: those that its calls handed out, with those that it has, are those that they handed in, by any measure.
pub no_place_lost : {E P : Type 0} (cell : P → ℕ) (calls : List (Call E P)) (books : Books E P) (places : List P)
    → MakesAll cell new_books calls books → ArePlaces (map.entries books.rows) books.free places
    → (measure : P → ℕ) → sum_by (λ call. sum_by measure (places_out call)) calls + sum_by measure places ≡ sum_by (λ call. sum_by measure (places_in call)) calls
no_place_lost {E = E} cell calls books places made has measure =
    omega (
      arith,
      balances_all measure cell new_books books calls law_new made,
      none_in_rows measure E,
      none_in_cells measure,
      has measure,
    )
