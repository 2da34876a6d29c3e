-- A session is given, or handed in: in whose hands the sessions of a desk are then.
use Rattle.std.proofs.Common.{◌≡◌, ◌≢◌, ◌⊎◌, ℕ, ◌<◌, ◌≤◌, List, Option, Some, None, Ok, refl, sym, ap, subst, ◌∙◌, inl, inr, ⊎_elim, arith}
use Rattle.std.specs.FinMap as map
use Rattle.std.proofs.lemmas.Bool.{cases_eq}
use Rattle.member_window.specs.Contents.{new_contents}
use Rattle.session_desk.specs.declared.newcomers.Newcomers.TheVariants.{IfRoom}
use Rattle.session_desk.proofs.Begun.{BegunOver, begun, begun_over}
use Rattle.session_desk.specs.declared.attached.Attached.TheVariants.{New, Resumed, Replace}
use Rattle.session_desk.specs.declared.session.Session.{Session}
use Rattle.session_desk.specs.declared.row.Row.{Row}
use Rattle.session_desk.specs.declared.row.Holder.TheVariants.{Lent, Parked}
use Rattle.session_desk.specs.Rows.{Rows, HasRow, session_in, away, with_holder, with_wait, new_row}
use Rattle.session_desk.specs.Books.{Books, new_session, after_end}
use Rattle.session_desk.specs.Attaching.{Request, AttachesClient, attaches_by}
use Rattle.session_desk.specs.Keeping.{Parks, ParksAsIs, EndsLent, parked_at}
use Rattle.session_desk.specs.Hands.{DeskLaw}
use Rattle.session_desk.proofs.Seen.{after_insert, insert_here}
use Rattle.local_server.proofs.Lent.{IsLentTo, IsParkedAs, KeepsRows, same_books, lent_beside, not_parked, replaces}

-- a session is new, or was parked
pub record IsFirst {E P : Type 0} (old : Books E P) (session : Session E P) : Type 0 where
  pub number : session.identity.number ≡ old.made
  pub window : session.window ≡ new_contents

-- a connection is given a session, and each other has what it had
pub record IsGiven {E P : Type 0} (old : Books E P) (session : Session E P) (connection : ℕ) (new : Books E P) : Type 0 where
  pub holds : IsLentTo new.rows session.identity.number connection
  pub lent : (number other : ℕ) → IsLentTo old.rows number other → IsLentTo new.rows number other
  pub parked : (number : ℕ) (its : Session E P) → IsParkedAs new.rows number its → (number ≢ session.identity.number) × IsParkedAs old.rows number its
  pub made : old.made ≤ new.made
  pub from : IsFirst old session ⊎ IsParkedAs old.rows session.identity.number session

-- the rows of a desk are of sessions that were new
abbrev IsBelow : {E P : Type 0} → Books E P → Type 0
IsBelow {E} {P} b = (number : ℕ) (row : Row E P) → HasRow b.rows number row → number < b.made

-- a new session
began : {E P : Type 0} (old new : Books E P) (client : List ℕ) (connection : ℕ) (session : Session E P) → IsBelow old
    → session ≡ new_session (record { number = old.made; client = client })
    → new.rows ≡ map.insert old.rows old.made (new_row client connection) → old.made ≤ new.made → IsGiven old session connection new
began {E} {P} old new client connection session below is_new is made =
    let its : session.identity.number ≡ old.made = ap (λ (s : Session E P). s.identity.number) is_new in
    record {
      holds =
          subst (λ (r : Rows E P). IsLentTo r session.identity.number connection) (sym is)
          (record {
            row = new_row client connection;
            has = ap (map.get (map.insert old.rows old.made (new_row client connection))) its ∙ insert_here old.rows old.made (new_row client connection);
            lent = refl;
          });
      lent = λ number other lent.
          subst (λ (r : Rows E P). IsLentTo r number other) (sym is)
          (lent_beside old.rows old.made number other (new_row client connection) (λ same. (let less = below number lent.row lent.has in omega arith)) lent);
      parked = λ number theirs parked.
          let was = not_parked old.rows old.made number (new_row client connection) theirs (λ e. cc) (subst (λ (r : Rows E P). IsParkedAs r number theirs) is parked) in
          ((λ same. was.0 (same ∙ its)), was.1);
      made = made;
      from = inl (record { number = its; window = ap (λ (s : Session E P). s.window) is_new });
    }

-- one that was parked
resumed : {E P : Type 0} (old new : Books E P) (k connection : ℕ) (row : Row E P) (session : Session E P) → DeskLaw old.rows old.made → HasRow old.rows k row
    → row.held_by ≡ Parked session
    → new.rows ≡ map.insert old.rows k (with_holder row (Lent connection)) → new.made ≡ old.made → IsGiven old session connection new
resumed {E} {P} old new k connection row session law has stands is made =
    let its : session.identity.number ≡ k = ap (λ w. w.number) (law.own k row session has (ap session_in stands)) in
    let parked_at_k : IsParkedAs old.rows k session = record { row = row; has = has; parked = stands } in
    record {
      holds =
          subst (λ (r : Rows E P). IsLentTo r session.identity.number connection) (sym is)
          (record {
            row = with_holder row (Lent connection);
            has = ap (map.get (map.insert old.rows k (with_holder row (Lent connection)))) its ∙ insert_here old.rows k (with_holder row (Lent connection));
            lent = refl;
          });
      lent = λ number other lent.
          subst (λ (r : Rows E P). IsLentTo r number other) (sym is)
          (lent_beside old.rows k number other (with_holder row (Lent connection)) (λ same. (let a = lent.has in let b = lent.lent in cc)) lent);
      parked = λ number theirs parked.
          let was = not_parked old.rows k number (with_holder row (Lent connection)) theirs (λ e. cc) (subst (λ (r : Rows E P). IsParkedAs r number theirs) is parked) in
          ((λ same. was.0 (same ∙ its)), was.1);
      made = (let e = made in omega arith);
      from = inr (subst (λ (n : ℕ). IsParkedAs old.rows n session) (sym its) parked_at_k);
    }

-- a session ends before another is given
given_behind : {E P : Type 0} (old mid new : Books E P) (session : Session E P) (connection : ℕ) → KeepsRows old mid → IsGiven mid session connection new
    → IsGiven old session connection new
given_behind old mid new session connection keeps given =
    record {
      holds = given.holds;
      lent = λ number other lent. given.lent number other (keeps.lent number other lent);
      parked = λ number its parked. (let was = given.parked number its parked in (was.0, keeps.parked number its was.1));
      made = (let more = given.made in let same = keeps.made in omega arith);
      from =
          ⊎_elim (λ (first : IsFirst mid session). inl (record { number = first.number ∙ keeps.made; window = first.window }))
          (λ (parked : IsParkedAs mid.rows session.identity.number session). inr (keeps.parked session.identity.number session parked)) given.from;
    }

begins_over : {E P : Type 0} (old new : Books E P) (connection : ℕ) (session ended : Session E P) → DeskLaw old.rows old.made
    → BegunOver old connection session ended new → IsGiven old session connection new
begins_over {E} {P} old new connection session ended law over =
    let mid : Books E P = after_end old over.number over.row in
    let has = over.has in
    let below : IsBelow mid = λ number row there.
    ⊎_elim
    (λ (here : (number ≡ over.number) × (away over.row.client ≡ row)). (let less = law.made_before over.number over.row has in let e = here.0 in omega arith))
    (λ (other : (number ≢ over.number) × HasRow old.rows number row). law.made_before number row other.1)
    (after_insert old.rows over.number number (away over.row.client) row there) in
    let ends = replaces old mid over.number over.row (away over.row.client) has (λ connection lent. (let parked = over.stands in cc)) (λ s e. cc) refl refl in
    given_behind old mid new session connection ends
    (began mid new over.client connection session below over.is over.rows (let e = over.made in omega arith))

-- a new session is given
pub given_new : {E P : Type 0} (client : List ℕ) (ended : Option (Session E P)) (old new : Books E P) (request : Request) (session : Session E P) → DeskLaw old.rows old.made
    → attaches_by (IfRoom 256) client old request (Ok (New session ended)) new → IsGiven old session request.connection new
given_new client None old new request session law does =
    let h = begun (IfRoom 256) old new request session client does in
    began old new h.client request.connection session law.made_before h.is h.rows (let e = h.made in omega arith)
given_new client (Some ended) old new request session law does = begins_over old new request.connection session ended law (begun_over (IfRoom 256) old new request session client ended does)

pub given_back : {E P : Type 0} (old new : Books E P) (client : List ℕ) (request : Request) (session : Session E P) → DeskLaw old.rows old.made
    → AttachesClient (IfRoom 256) old client request (Ok (Resumed session)) new → IsGiven old session request.connection new
given_back old new client request session law does =
    resumed old new does.number request.connection does.row session law does.its.has does.its.stands (ap (λ b. b.rows) does.after) (ap (λ b. b.made) does.after)

-- none is given
pub waits : {E P : Type 0} (old new : Books E P) (client : List ℕ) (request : Request) (holder : ℕ) → AttachesClient (IfRoom 256) old client request (Ok (Replace holder)) new
    → KeepsRows old new
waits {E} {P} old new client request holder does =
    let row = with_wait does.row request.connection in
    let has = does.its.has in
    let stands = does.its.stands in
    record {
      lent = λ number connection lent.
          subst (λ (r : Rows E P). IsLentTo r number connection) (sym (ap (λ b. b.rows) does.after))
          (⊎_elim
          (λ (same : number ≡ does.number).
          record {
            row = row;
            has = ap (map.get (map.insert old.rows does.number row)) same ∙ insert_here old.rows does.number row;
            lent = (let a = lent.has in let b = lent.lent in cc);
          })
          (λ (other : number ≢ does.number). lent_beside old.rows does.number number connection row other lent)
          (cases_eq number does.number));
      parked = λ number session parked.
          (not_parked old.rows does.number number row session (λ e. cc) (subst (λ (r : Rows E P). IsParkedAs r number session) (ap (λ b. b.rows) does.after) parked)).1;
      made = ap (λ b. b.made) does.after;
    }

-- a session is handed in: it is parked with its window, or none has it
pub record IsHandedIn {E P : Type 0} (old : Books E P) (session : Session E P) (new : Books E P) : Type 0 where
  pub lent : (number connection : ℕ) → number ≢ session.identity.number → IsLentTo old.rows number connection → IsLentTo new.rows number connection
  pub parked : (number : ℕ) (its : Session E P) → IsParkedAs new.rows number its
      → IsParkedAs old.rows number its ⊎ ((number ≡ session.identity.number) × (its.window ≡ session.window))
  pub made : new.made ≡ old.made

written : {E P : Type 0} (old new : Books E P) (session : Session E P) (row : Row E P) → ((its : Session E P) → row.held_by ≡ Parked its → its.window ≡ session.window)
    → new.rows ≡ map.insert old.rows session.identity.number row → new.made ≡ old.made → IsHandedIn old session new
written {E} {P} old new session row window is made =
    record {
      lent = λ number connection other lent.
          subst (λ (r : Rows E P). IsLentTo r number connection) (sym is) (lent_beside old.rows session.identity.number number connection row other lent);
      parked = λ number its parked.
          let there = subst (λ (r : Rows E P). IsParkedAs r number its) is parked in
          ⊎_elim
          (λ (here : (number ≡ session.identity.number) × (row ≡ there.row)). inr (here.0, window its (ap (λ (r : Row E P). r.held_by) here.1 ∙ there.parked)))
          (λ (other : (number ≢ session.identity.number) × HasRow old.rows number there.row). inl (record { row = there.row; has = other.1; parked = there.parked }))
          (after_insert old.rows session.identity.number number row there.row there.has);
      made = made;
    }

unmoved : {E P : Type 0} (old new : Books E P) (session : Session E P) → new ≡ old → IsHandedIn old session new
unmoved old new session same =
    let keeps = same_books old new same in
    record { lent = λ number connection other lent. keeps.lent number connection lent; parked = λ number its parked. inl (keeps.parked number its parked); made = keeps.made }

same_window : {E P : Type 0} (session its : Session E P) → Parked session ≡ Parked its → its.window ≡ session.window
same_window session its e = cc

pub parks : {E P : Type 0} (old new : Books E P) (session : Session E P) (now : ℕ) (answer : Option (Session E P)) → Parks old session now answer new → IsHandedIn old session new
parks old new session now None does =
    written old new session (with_holder does.lent.row (Parked (parked_at session now))) (λ its e. same_window (parked_at session now) its e)
    (ap (λ b. b.rows) does.after) (ap (λ b. b.made) does.after)
parks old new session now (Some back) does =
    ⊎_elim
    (λ (ends : EndsLent old session new). written old new session (away ends.lent.row.client) (λ its e. absurd (cc)) (ap (λ b. b.rows) ends.after) (ap (λ b. b.made) ends.after))
    (λ stays. unmoved old new session stays.1)
    does.1

pub parks_as_is : {E P : Type 0} (old new : Books E P) (session : Session E P) (answer : Option (Session E P)) → ParksAsIs old session answer new → IsHandedIn old session new
parks_as_is old new session None does =
    written old new session (with_holder does.lent.row (Parked session)) (λ its e. same_window session its e) (ap (λ b. b.rows) does.after) (ap (λ b. b.made) does.after)
parks_as_is old new session (Some back) does = unmoved old new session does.2
