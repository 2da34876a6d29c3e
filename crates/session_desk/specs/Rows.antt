-- The rows of a desk: in whose hands each session is.
use Rattle.std.specs.Prelude.{◌≡◌, ℕ, ◌+◌, ◌*◌, ◌≤◌, Bool, true, false, List, Option, None, Some}
use Rattle.std.specs.Ordering.{nat_cmp}
use Rattle.std.specs.FinMap as map
use Rattle.limits.specs.Limits.{most_sessions}
use Rattle.session_desk.specs.Sessions.{Who, IsOver}
use Rattle.session_desk.specs.declared.session.Session.{Session}
use Rattle.session_desk.specs.declared.row.Row.{Row}
use Rattle.session_desk.specs.declared.row.Holder.{Holder}
use Rattle.session_desk.specs.declared.row.Holder.TheVariants.{Lent, Parked, Kept, Away}

-- how many rows there may be: twice as many as sessions that are lent or parked, since those of sessions that are ending stand beside them
abbrev pub most_rows : ℕ
most_rows = 2 * most_sessions

-- the rows by the numbers of their sessions: one of each session that was new and is not buried
abbrev pub Rows : Type 0 → Type 0 → Type 0
Rows E P = map.FinMap nat_cmp (Row E P)

-- the session with this number has this row
abbrev pub HasRow : {E P : Type 0} → Rows E P → ℕ → Row E P → Type 0
HasRow rows number row = map.get rows number ≡ Some row

-- lent or parked: its client has the session, or may have it back
abbrev pub is_living : {E P : Type 0} → Holder E P → Bool
is_living (Lent connection) = true
is_living (Parked session) = true
is_living (Kept session) = false
is_living Away = false

-- the row of this client's session, which is lent or parked
pub record LivesAs {E P : Type 0} (client : List ℕ) (row : Row E P) : Type 0 where
  pub its : row.client ≡ client
  pub living : is_living row.held_by ≡ true

-- no session of this client is lent or parked
abbrev pub NoneLivesAs : {E P : Type 0} → Rows E P → List ℕ → Type 0
NoneLivesAs {E} {P} rows client = (number : ℕ) (row : Row E P) → HasRow rows number row → ¬ LivesAs client row

-- the same row, in these hands
abbrev pub with_holder : {E P : Type 0} → Row E P → Holder E P → Row E P
with_holder row held_by = record { client = row.client; wait = row.wait; held_by = held_by }

-- the same row, and this connection waits for it
abbrev pub with_wait : {E P : Type 0} → Row E P → ℕ → Row E P
with_wait row connection = record { client = row.client; wait = Some connection; held_by = row.held_by }

-- the row of a session that is ending and in a caller's hands
abbrev pub away : {E P : Type 0} → List ℕ → Row E P
away client = record { client = client; wait = None; held_by = Away }

-- the row of a new session
abbrev pub new_row : {E P : Type 0} → List ℕ → ℕ → Row E P
new_row client connection = record { client = client; wait = None; held_by = Lent connection }

-- the session that the desk keeps in this row, if it keeps one
abbrev pub session_in : {E P : Type 0} → Holder E P → Option (Session E P)
session_in (Lent connection) = None
session_in (Parked session) = Some session
session_in (Kept session) = Some session
session_in Away = None

-- its session is ending and the desk keeps it
abbrev pub IsKept : {E P : Type 0} → Row E P → Type 0
IsKept {E} {P} row = (session : Session E P) × (row.held_by ≡ Kept session)

-- its session is parked and its time is over
abbrev pub IsOverdue : {E P : Type 0} → ℕ → Row E P → Type 0
IsOverdue {E} {P} now row = (session : Session E P) × (row.held_by ≡ Parked session) × IsOver session.expiry now

-- the rows, and how many sessions were ever new, which is the number of the next one
pub record Register (E P : Type 0) : Type 0 where
  pub rows : Rows E P
  pub made : ℕ

-- the session with this number has this row from now on
abbrev pub moved : {E P : Type 0} → Register E P → ℕ → Row E P → Register E P
moved r number row = record { rows = map.insert r.rows number row; made = r.made }

-- a session is new: it is lent to this connection
abbrev pub begun : {E P : Type 0} → Register E P → List ℕ → ℕ → Register E P
begun r client connection = record { rows = map.insert r.rows r.made (new_row client connection); made = r.made + 1 }

-- who the next new session of this client is
abbrev pub next_who : {E P : Type 0} → Register E P → List ℕ → Who
next_who r client = record { number = r.made; client = client }

-- no row is so
abbrev pub NoRow : {E P : Type 0} → Rows E P → (Row E P → Type 0) → Type 0
NoRow {E} {P} rows IsSo = (number : ℕ) (row : Row E P) → HasRow rows number row → ¬ IsSo row

-- the oldest row that is so, which is that of the session that was new before the others
pub record IsOldest {E P : Type 0} (rows : Rows E P) (IsSo : Row E P → Type 0) (number : ℕ) : Type 0 where
  pub row : Row E P
  pub has : HasRow rows number row
  pub is_so : IsSo row
  pub least : (other : ℕ) (their : Row E P) → HasRow rows other their → IsSo their → number ≤ other

-- the row of this session
pub record IsRowOf {E P : Type 0} (rows : Rows E P) (session : Session E P) (row : Row E P) (held_by : Holder E P) : Type 0 where
  pub has : HasRow rows session.identity.number row
  pub its : row.client ≡ session.identity.client
  pub stands : row.held_by ≡ held_by

-- no row is this session's
abbrev pub NoRowOf : {E P : Type 0} → Rows E P → Session E P → Type 0
NoRowOf {E} {P} rows session = (row : Row E P) → HasRow rows session.identity.number row → row.client ≡ session.identity.client → ⊥

-- the session is lent
pub record IsLentIn {E P : Type 0} (rows : Rows E P) (session : Session E P) : Type 0 where
  pub row : Row E P
  pub connection : ℕ
  pub is_row : IsRowOf rows session row (Lent connection)

-- the session is ending, and in a caller's hands
pub record IsAwayIn {E P : Type 0} (rows : Rows E P) (session : Session E P) : Type 0 where
  pub row : Row E P
  pub is_row : IsRowOf rows session row Away
