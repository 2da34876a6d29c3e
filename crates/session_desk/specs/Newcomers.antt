-- Whom a desk begins a session for that has none.
use Rattle.std.specs.Prelude.{◌≡◌, ◌⊎◌, ℕ, ◌<◌, ◌≤◌, min, List, Some, None, Result, Ok, Err}
use Rattle.std.specs.FinMap as map
use Rattle.limits.specs.Limits.{most_sessions}
use Rattle.session_desk.specs.declared.attached.Attached.{Attached}
use Rattle.session_desk.specs.declared.attached.Attached.TheVariants.{New, Resumed, Replace, Busy}
use Rattle.session_desk.specs.declared.error.DeskError.{DeskError}
use Rattle.session_desk.specs.declared.error.DeskError.TheVariants as errors
use Rattle.session_desk.specs.declared.newcomers.Newcomers.{Newcomers}
use Rattle.session_desk.specs.declared.newcomers.Newcomers.TheVariants.{IfRoom, Displace, Refused}
use Rattle.session_desk.specs.declared.newcomers.Room.{Room}
use Rattle.session_desk.specs.declared.newcomers.Room.TheVariants.{Beside, InPlaceOf, Nowhere}
use Rattle.session_desk.specs.declared.session.Session.{Session}
use Rattle.session_desk.specs.declared.row.Row.{Row}
use Rattle.session_desk.specs.Idle.{IsParkedLongest}
use Rattle.session_desk.specs.Rows.{Rows, NoneLivesAs, most_rows}
use Rattle.session_desk.specs.Books.{Books, new_session, after_new, after_end}

-- how many rows there may be, where a desk is told to keep so many sessions
abbrev pub room_for : ℕ → ℕ
room_for most = min most most_sessions

-- a newcomer's session has room beside the others: there are fewer rows than that
abbrev pub HasSpace : {E P : Type 0} → Newcomers → Rows E P → Type 0
HasSpace (IfRoom most) rows = map.len rows < room_for most
HasSpace (Displace most) rows = map.len rows < room_for most
HasSpace Refused rows = ⊥

-- there are as many rows or more, and the session in this row goes for a newcomer's
pub record Goes {E P : Type 0} (newcomers : Newcomers) (rows : Rows E P) (number : ℕ) (row : Row E P) (session : Session E P) : Type 0 where
  pub most : ℕ
  pub displaces : newcomers ≡ Displace most
  pub full : room_for most ≤ map.len rows
  pub longest : IsParkedLongest rows number row session

abbrev pub OneGoes : {E P : Type 0} → Newcomers → Rows E P → ℕ → Type 0
OneGoes {E} {P} newcomers rows number = (row : Row E P) × (session : Session E P) × Goes newcomers rows number row session

-- there is room for a newcomer's session
abbrev pub HasRoom : {E P : Type 0} → Newcomers → Rows E P → Type 0
HasRoom newcomers rows = HasSpace newcomers rows ⊎ ((number : ℕ) × OneGoes newcomers rows number)

-- and this is where
abbrev pub IsRoom : {E P : Type 0} → Rows E P → Newcomers → Room → Type 0
IsRoom rows newcomers Beside = HasSpace newcomers rows
IsRoom rows newcomers (InPlaceOf number) = OneGoes newcomers rows number
IsRoom rows newcomers Nowhere = ¬ HasRoom newcomers rows

-- the client had no session
pub record BeginsFirst {E P : Type 0} (newcomers : Newcomers) (old : Books E P) (client : List ℕ) (connection : ℕ) (session : Session E P) (new : Books E P) : Type 0 where
  pub none : NoneLivesAs old.rows client
  pub room : HasSpace newcomers old.rows
  pub is : session ≡ new_session (record { number = old.made; client = client })
  pub after : new ≡ after_new old client connection

-- and that of another client ends for it
pub record Displaces {E P : Type 0} (newcomers : Newcomers) (old : Books E P) (client : List ℕ) (connection : ℕ) (session ended : Session E P) (new : Books E P) : Type 0 where
  pub none : NoneLivesAs old.rows client
  pub number : ℕ
  pub row : Row E P
  pub goes : Goes newcomers old.rows number row ended
  pub fits : map.len old.rows < most_rows
  pub is : session ≡ new_session (record { number = old.made; client = client })
  pub after : new ≡ after_new (after_end old number row) client connection

-- what a client gets that has no session
abbrev pub Begins : {E P : Type 0} → Newcomers → Books E P → List ℕ → ℕ → Result (Attached E P) DeskError → Books E P → Type 0
Begins newcomers old client connection (Ok (New session None)) new = BeginsFirst newcomers old client connection session new
Begins newcomers old client connection (Ok (New session (Some ended))) new = Displaces newcomers old client connection session ended new
Begins newcomers old client connection (Ok (Resumed session)) new = ⊥
Begins newcomers old client connection (Ok (Replace holder)) new = ⊥
Begins newcomers old client connection (Ok Busy) new = ⊥
Begins newcomers old client connection (Err errors.Full) new = NoneLivesAs old.rows client × (¬ HasRoom newcomers old.rows) × (new ≡ old)
Begins newcomers old client connection (Err errors.Memory) new = NoneLivesAs old.rows client × HasRoom newcomers old.rows × (new ≡ old)
Begins newcomers old client connection (Err errors.NoPlace) new = ⊥
Begins newcomers old client connection (Err errors.NoName) new = ⊥
