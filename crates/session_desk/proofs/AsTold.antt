-- A desk keeps as many sessions as its calls tell it to, at most.
use Rattle.std.proofs.Common.{◌≡◌, ℕ, ◌<◌, ◌≤◌, true, false, cond, List, [], ◌∷◌, Option, Some, None, Result, Ok, Err, refl, ap, ◌∙◌, ⊎_elim, inl, inr, arith}
use Rattle.std.specs.List.{AllByRecursion}
use Rattle.std.specs.FinMap as map
use Rattle.std.proofs.Math.Nat.{min-le_left}
use Rattle.limits.specs.Limits.{most_sessions}
use Rattle.session_desk.specs.declared.attached.Attached.{Attached}
use Rattle.session_desk.specs.declared.attached.Attached.TheVariants.{New, Resumed, Replace, Busy}
use Rattle.session_desk.specs.declared.error.DeskError.{DeskError}
use Rattle.session_desk.specs.declared.error.DeskError.TheVariants.{Full, Memory, NoPlace, NoName}
use Rattle.session_desk.specs.declared.newcomers.Newcomers.{Newcomers}
use Rattle.session_desk.specs.declared.newcomers.Newcomers.TheVariants.{IfRoom, Displace, Refused}
use Rattle.session_desk.specs.declared.session.Session.{Session}
use Rattle.session_desk.specs.declared.row.Row.{Row}
use Rattle.session_desk.specs.declared.row.Holder.{Holder}
use Rattle.session_desk.specs.declared.row.Holder.TheVariants.{Lent, Parked, Kept}
use Rattle.session_desk.specs.Rows.{Rows, HasRow, NoRow, IsKept, IsOverdue, is_living, away, new_row, with_holder, with_wait}
use Rattle.session_desk.specs.Books.{Books}
use Rattle.session_desk.specs.Newcomers.{HasSpace, Begins}
use Rattle.session_desk.specs.Attaching.{Request, AttachesClient, AttachesUnnamed, attaches_by}
use Rattle.session_desk.specs.Keeping.{EndsLent, IsLent, parked_at}
use Rattle.session_desk.specs.Names.{assigned_name}
use Rattle.session_desk.specs.Sweeping.{HandsOut}
use Rattle.session_desk.specs.Calls.{Call, Attach, Withdraw, Kicked, Park, ParkAsIs, Keep, Bury, Sweep, LendPlace, TakePlace, Makes, MakesAll}
use Rattle.session_desk.specs.Hands.{KeepsAtMost, TellsAtMost, living_in, living_row, DeskLaw}
use Rattle.session_desk.proofs.Seen.{insert_other}
use Rattle.session_desk.proofs.Kept.{none_of}
use Rattle.session_desk.proofs.Living.{living_within, living_moved, living_more, living_removed, none_living}
use Rattle.session_desk.proofs.Hands.{no_more}
use Rattle.session_desk.proofs.OneHand.{law_all}

false_true : false ≡ true → ⊥
false_true e = cc

-- where there is room for a newcomer's session, there are fewer rows than the desk is told to keep
fewer_rows : {E P : Type 0} (most : ℕ) (newcomers : Newcomers) (rows : Rows E P) → TellsAtMost most newcomers → HasSpace newcomers rows → map.len rows < most
fewer_rows most (IfRoom told) rows few room = (let less = min-le_left told most_sessions in omega (arith, few, room))
fewer_rows most (Displace told) rows few room = (let less = min-le_left told most_sessions in omega (arith, few, room))
fewer_rows most Refused rows few room = absurd room

module _ {E P : Type 0} (old : Books E P) (law : DeskLaw old.rows old.made) (most : ℕ) (few : living_in old.rows ≤ most) where
  -- a row that is written anew, and lives only where it lived before
  rewritten : (new : Books E P) (k : ℕ) (before after : Row E P) → HasRow old.rows k before → (is_living after.held_by ≡ true → is_living before.held_by ≡ true)
      → new.rows ≡ map.insert old.rows k after → living_in new.rows ≤ most
  rewritten new k before after has lives is =
      let moved = living_moved old.rows k before after has in
      let less = no_more before after lives in
      let same = ap living_in is in
      omega arith

  same_rows : (new : Books E P) → new.rows ≡ old.rows → living_in new.rows ≤ most
  same_rows new is =
      let same = ap living_in is in
      omega arith

  unchanged : (new : Books E P) → new ≡ old → living_in new.rows ≤ most
  unchanged new is = same_rows new (ap (λ b. b.rows) is)

  no_row : map.get old.rows old.made ≡ None
  no_row = none_of (map.get old.rows old.made) (λ row has. let less = law.made_before old.made row has in omega arith)

  -- a session begins beside the others
  begun : (new : Books E P) (client : List ℕ) (connection : ℕ) → map.len old.rows < most → new.rows ≡ map.insert old.rows old.made (new_row client connection) → living_in new.rows ≤ most
  begun new client connection room is =
      let more = living_more old.rows old.made (new_row {E = E} {P = P} client connection) no_row in
      let within = living_within old.rows in
      let same = ap living_in is in
      omega arith

  -- and where a parked one ends for it
  begun_over : (new : Books E P) (k : ℕ) (row : Row E P) (ended : Session E P) (client : List ℕ) (connection : ℕ) → HasRow old.rows k row → row.held_by ≡ Parked ended
      → new.rows ≡ map.insert (map.insert old.rows k (away row.client)) old.made (new_row client connection) → living_in new.rows ≤ most
  begun_over new k row ended client connection has stands is =
      let mid : Rows E P = map.insert old.rows k (away row.client) in
      let other : old.made ≡ k → ⊥ = λ e. (let less = law.made_before k row has in omega arith) in
      let none : map.get mid old.made ≡ None = insert_other old.rows k old.made (away row.client) other ∙ no_row in
      let moved = living_moved old.rows k row (away row.client) has in
      let lived : living_row row ≡ 1 = ap (λ (h : Holder E P). cond (is_living h) 1 0) stands in
      let more = living_more mid old.made (new_row {E = E} {P = P} client connection) none in
      let same = ap living_in is in
      omega arith

  newcomer : (newcomers : Newcomers) (client : List ℕ) (connection : ℕ) (session : Session E P) (ended : Option (Session E P)) (new : Books E P) → TellsAtMost most newcomers
      → Begins newcomers old client connection (Ok (New session ended)) new → living_in new.rows ≤ most
  newcomer newcomers client connection session None new told h = begun new client connection (fewer_rows most newcomers old.rows told h.room) (ap (λ b. b.rows) h.after)
  newcomer newcomers client connection session (Some ended) new told h =
      begun_over new h.number h.row ended client connection h.goes.longest.has h.goes.longest.stands (ap (λ b. b.rows) h.after)

  client_few : (newcomers : Newcomers) (client : List ℕ) (request : Request) (answer : Result (Attached E P) DeskError) (new : Books E P) → TellsAtMost most newcomers
      → AttachesClient newcomers old client request answer new → living_in new.rows ≤ most
  client_few newcomers client request (Ok (New session None)) new told h = newcomer newcomers client request.connection session None new told h
  client_few newcomers client request (Ok (New session (Some ended))) new told (inl h) =
      begun_over new h.number h.row ended client request.connection h.its.has h.its.stands (ap (λ b. b.rows) h.after)
  client_few newcomers client request (Ok (New session (Some ended))) new told (inr h) = newcomer newcomers client request.connection session (Some ended) new told h
  client_few newcomers client request (Ok (Resumed session)) new told h =
      rewritten new h.number h.row (with_holder h.row (Lent request.connection)) h.its.has (λ e. ap is_living h.its.stands) (ap (λ b. b.rows) h.after)
  client_few newcomers client request (Ok (Replace holder)) new told h =
      rewritten new h.number h.row (with_wait h.row request.connection) h.its.has (λ e. e) (ap (λ b. b.rows) h.after)
  client_few newcomers client request (Ok Busy) new told h = unchanged new h.1
  client_few newcomers client request (Err Full) new told h = unchanged new h.2
  client_few newcomers client request (Err Memory) new told h = unchanged new h.1
  client_few newcomers client request (Err NoPlace) new told h = absurd h
  client_few newcomers client request (Err NoName) new told h = absurd h

  unnamed_few : (newcomers : Newcomers) (connection : ℕ) (answer : Result (Attached E P) DeskError) (new : Books E P) → TellsAtMost most newcomers
      → AttachesUnnamed newcomers old connection answer new → living_in new.rows ≤ most
  unnamed_few newcomers connection (Ok (New session ended)) new told h =
      let after = newcomer newcomers (assigned_name h.number) connection session ended h.mid told h.begins in
      let same = ap (λ b. living_in b.rows) h.after in
      omega arith
  unnamed_few newcomers connection (Ok (Resumed session)) new told h = absurd h
  unnamed_few newcomers connection (Ok (Replace holder)) new told h = absurd h
  unnamed_few newcomers connection (Ok Busy) new told h = absurd h
  unnamed_few newcomers connection (Err Full) new told h = unchanged new h.2
  unnamed_few newcomers connection (Err Memory) new told h = unchanged new h.2
  unnamed_few newcomers connection (Err NoPlace) new told h = absurd h
  unnamed_few newcomers connection (Err NoName) new told h = unchanged new h.1

  attached_few : (newcomers : Newcomers) (client : List ℕ) (request : Request) (answer : Result (Attached E P) DeskError) (new : Books E P) → TellsAtMost most newcomers
      → attaches_by newcomers client old request answer new → living_in new.rows ≤ most
  attached_few newcomers [] request answer new told h = unnamed_few newcomers request.connection answer new told h
  attached_few newcomers (byte ∷ bytes) request answer new told h = client_few newcomers (byte ∷ bytes) request answer new told h

  -- a session that is ending is handed out
  handed_few : (new : Books E P) (rows : Rows E P) (IsSo : Row E P → Type 0) (session : Session E P) (held : Holder E P) → HandsOut old.rows IsSo held rows → new.rows ≡ rows → living_in new.rows ≤ most
  handed_few new rows IsSo session held h is = rewritten new h.number h.oldest.row (away h.oldest.row.client) h.oldest.has (λ e. absurd (false_true e)) (is ∙ h.after)

-- a new desk keeps none
pub none_yet : {E P : Type 0} (rows : Rows E P) (most : ℕ) → rows ≡ map.empty → living_in rows ≤ most
none_yet {E} {P} rows most is =
    let none = none_living E P in
    let same = ap living_in is in
    omega arith

module _ {P : Type 0} (cell : P → ℕ) (most : ℕ) where
  -- each call
  pub few_next : {E : Type 0} (old new : Books E P) (call : Call E P) → DeskLaw old.rows old.made → Makes cell old call new → KeepsAtMost most call → living_in old.rows ≤ most → living_in new.rows ≤ most
  few_next old new (Attach newcomers request answer) law made told few = attached_few old law most few newcomers request.client request answer new told made
  few_next old new (Withdraw connection) law made told few = same_rows old law most few new (ap (λ b. b.rows) made)
  few_next old new (Kicked connection answer) law made told few = unchanged old law most few new made.1
  few_next old new (Park session now None) law made told few =
      rewritten old law most few new session.identity.number made.lent.row (with_holder made.lent.row (Parked (parked_at session now))) made.lent.is_row.has (λ e. ap is_living made.lent.is_row.stands) (ap (λ b. b.rows) made.after)
  few_next {E} old new (Park session now (Some back)) law made told few =
      ⊎_elim
      (λ (h : EndsLent old session new).
      rewritten old law most few new session.identity.number h.lent.row (away h.lent.row.client) h.lent.is_row.has (λ e. absurd (false_true e)) (ap (λ b. b.rows) h.after))
      (λ (h : (IsLent old session → ⊥) × (new ≡ old)). unchanged old law most few new h.1)
      made.1
  few_next old new (ParkAsIs session None) law made told few =
      rewritten old law most few new session.identity.number made.lent.row (with_holder made.lent.row (Parked session)) made.lent.is_row.has (λ e. ap is_living made.lent.is_row.stands) (ap (λ b. b.rows) made.after)
  few_next old new (ParkAsIs session (Some back)) law made told few = unchanged old law most few new made.2
  few_next old new (Keep session None) law made told few =
      rewritten old law most few new session.identity.number made.gone.row (with_holder made.gone.row (Kept session)) made.gone.is_row.has (λ e. absurd (false_true e)) (ap (λ b. b.rows) made.after)
  few_next old new (Keep session (Some back)) law made told few = unchanged old law most few new made.2
  few_next old new (Bury session None) law made told few =
      let less = living_removed old.rows session.identity.number made.0.gone.row made.0.gone.is_row.has in
      let same = ap (λ b. living_in b.rows) made.1 in
      omega arith
  few_next old new (Bury session (Some back)) law made told few = unchanged old law most few new made.2
  few_next old new (Sweep now None) law made told few = same_rows old law most few new (ap (λ b. b.rows) made.2 ∙ made.1.2)
  few_next {E} old new (Sweep now (Some session)) law made told few =
      ⊎_elim
      (λ (h : HandsOut old.rows IsKept (Kept session) made.0). handed_few old law most few new made.0 IsKept session (Kept session) h (ap (λ b. b.rows) made.2))
      (λ (h : NoRow old.rows IsKept × HandsOut old.rows (IsOverdue now) (Parked session) made.0).
      handed_few old law most few new made.0 (IsOverdue now) session (Parked session) h.1 (ap (λ b. b.rows) made.2))
      made.1
  few_next old new (LendPlace slot answer) law made told few = same_rows old law most few new (ap (λ b. b.rows) made.2)
  few_next old new (TakePlace place answer) law made told few = same_rows old law most few new (ap (λ b. b.rows) made.2)

  -- all calls
  pub few_all : {E : Type 0} (old new : Books E P) (calls : List (Call E P)) → DeskLaw old.rows old.made → MakesAll cell old calls new → AllByRecursion (KeepsAtMost most) calls
      → living_in old.rows ≤ most → living_in new.rows ≤ most
  few_all old new [] law made told few = unchanged old law most few new made
  few_all old new (call ∷ calls) law made told few =
      let mid = made.1.0 in
      few_all mid new calls (law_all cell old mid (call ∷ []) law (made.0, (mid, made.1.1, refl))) made.1.2 told.1 (few_next old mid call law made.1.1 told.0 few)
