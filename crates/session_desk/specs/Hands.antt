-- In whose hands the sessions of a desk are, by the calls that were made of it.
use Rattle.std.specs.Prelude.{◌≡◌, ℕ, ◌+◌, ◌<◌, ◌≤◌, nat_eq, if◌then◌else◌, sum_by, Bool, true, false, List, [], ◌∷◌, Option, Some, None, Result, Ok, Err}
use Rattle.std.specs.FinMap as map
use Rattle.limits.specs.Limits.{most_sessions}
use Rattle.session_desk.specs.declared.attached.Attached.{Attached}
use Rattle.session_desk.specs.declared.attached.Attached.TheVariants.{New, Resumed, Replace, Busy}
use Rattle.session_desk.specs.declared.error.DeskError.{DeskError}
use Rattle.session_desk.specs.declared.newcomers.Newcomers.{Newcomers}
use Rattle.session_desk.specs.declared.newcomers.Newcomers.TheVariants.{IfRoom, Displace, Refused}
use Rattle.session_desk.specs.declared.session.Session.{Session}
use Rattle.session_desk.specs.declared.row.Row.{Row}
use Rattle.session_desk.specs.declared.row.Holder.{Holder}
use Rattle.session_desk.specs.declared.row.Holder.TheVariants.{Lent, Parked, Kept, Away}
use Rattle.session_desk.specs.Rows.{Rows, HasRow, is_living, most_rows, session_in}
use Rattle.session_desk.specs.Calls.{Call, Attach, Withdraw, Kicked, Park, ParkAsIs, Keep, Bury, Sweep, LendPlace, TakePlace}

-- once where it is the session with this number
abbrev pub once : {E P : Type 0} → ℕ → Session E P → ℕ
once number session = if nat_eq session.identity.number number then 1 else 0

abbrev pub once_in : {E P : Type 0} → ℕ → Option (Session E P) → ℕ
once_in number (Some session) = once number session
once_in number None = 0

-- how often an answer hands the session with this number out
abbrev pub attached_out : {E P : Type 0} → ℕ → Result (Attached E P) DeskError → ℕ
attached_out number (Ok (New session ended)) = once number session + once_in number ended
attached_out number (Ok (Resumed session)) = once number session
attached_out number (Ok (Replace holder)) = 0
attached_out number (Ok Busy) = 0
attached_out number (Err error) = 0

abbrev pub handed_out : {E P : Type 0} → ℕ → Call E P → ℕ
handed_out number (Attach newcomers request answer) = attached_out number answer
handed_out number (Park session now answer) = once_in number answer
handed_out number (ParkAsIs session answer) = once_in number answer
handed_out number (Keep session answer) = once_in number answer
handed_out number (Bury session answer) = once_in number answer
handed_out number (Sweep now answer) = once_in number answer
handed_out number (Withdraw connection) = 0
handed_out number (Kicked connection answer) = 0
handed_out number (LendPlace slot answer) = 0
handed_out number (TakePlace place answer) = 0

-- how often a call hands it in
abbrev pub handed_in : {E P : Type 0} → ℕ → Call E P → ℕ
handed_in number (Park session now answer) = once number session
handed_in number (ParkAsIs session answer) = once number session
handed_in number (Keep session answer) = once number session
handed_in number (Bury session answer) = once number session
handed_in number (Attach newcomers request answer) = 0
handed_in number (Sweep now answer) = 0
handed_in number (Withdraw connection) = 0
handed_in number (Kicked connection answer) = 0
handed_in number (LendPlace slot answer) = 0
handed_in number (TakePlace place answer) = 0

-- how often a call buries it
abbrev pub buried : {E P : Type 0} → ℕ → Call E P → ℕ
buried number (Bury session None) = once number session
buried number (Bury session (Some back)) = 0
buried number (Attach newcomers request answer) = 0
buried number (Park session now answer) = 0
buried number (ParkAsIs session answer) = 0
buried number (Keep session answer) = 0
buried number (Sweep now answer) = 0
buried number (Withdraw connection) = 0
buried number (Kicked connection answer) = 0
buried number (LendPlace slot answer) = 0
buried number (TakePlace place answer) = 0

-- how often all these calls do
abbrev pub total : {E P : Type 0} → (Call E P → ℕ) → List (Call E P) → ℕ
total count [] = 0
total count (call ∷ calls) = count call + total count calls

-- a session that is lent, or ending and not with the desk, is in a caller's hands
abbrev pub is_out : {E P : Type 0} → Holder E P → Bool
is_out (Lent connection) = true
is_out (Parked session) = false
is_out (Kept session) = false
is_out Away = true

-- once where the row of the session with this number says so
abbrev pub out_of_row : {E P : Type 0} → Option (Row E P) → ℕ
out_of_row (Some row) = if is_out row.held_by then 1 else 0
out_of_row None = 0

abbrev pub row_count : {E P : Type 0} → Option (Row E P) → ℕ
row_count (Some row) = 1
row_count None = 0

-- how often the session with this number is in a caller's hands, and how many rows it has
abbrev pub outs : {E P : Type 0} → Rows E P → ℕ → ℕ
outs rows number = out_of_row (map.get rows number)

abbrev pub rows_of : {E P : Type 0} → Rows E P → ℕ → ℕ
rows_of rows number = row_count (map.get rows number)

-- how many rows are lent or parked
abbrev pub living_row : {E P : Type 0} → Row E P → ℕ
living_row row = if is_living row.held_by then 1 else 0

abbrev pub living_in : {E P : Type 0} → Rows E P → ℕ
living_in rows = sum_by (λ entry. living_row entry.1) (map.entries rows)

-- the desk law, which every call keeps
pub record DeskLaw {E P : Type 0} (rows : Rows E P) (made : ℕ) : Type 0 where
  -- at most so many rows are lent or parked; those of sessions that are ending may stand beside them, up to twice as many in all
  pub few : living_in rows ≤ most_sessions
  pub fit : map.len rows ≤ most_rows
  -- each of a session that was new
  pub made_before : (number : ℕ) (row : Row E P) → HasRow rows number row → number < made
  -- no two rows that are lent or parked are of one client
  pub one_each : (number other : ℕ) (row their : Row E P) → HasRow rows number row → HasRow rows other their → is_living row.held_by ≡ true → is_living their.held_by ≡ true
      → row.client ≡ their.client → number ≡ other
  -- the session that a row keeps is the row's
  pub own : (number : ℕ) (row : Row E P) (session : Session E P) → HasRow rows number row → session_in row.held_by ≡ Some session
      → session.identity ≡ record { number = number; client = row.client }
  -- no parked session's window is of an ending one
  pub not_ending : (number : ℕ) (row : Row E P) (session : Session E P) → HasRow rows number row → row.held_by ≡ Parked session → session.window.retired ≡ false

-- a desk is told to keep at most so many sessions
abbrev pub TellsAtMost : ℕ → Newcomers → Type 0
TellsAtMost most (IfRoom told) = told ≤ most
TellsAtMost most (Displace told) = told ≤ most
TellsAtMost most Refused = Unit {0}

-- a call that may begin a session tells so
abbrev pub KeepsAtMost : {E P : Type 0} → ℕ → Call E P → Type 0
KeepsAtMost most (Attach newcomers request answer) = TellsAtMost most newcomers
KeepsAtMost most (Withdraw connection) = Unit {0}
KeepsAtMost most (Kicked connection answer) = Unit {0}
KeepsAtMost most (Park session now answer) = Unit {0}
KeepsAtMost most (ParkAsIs session answer) = Unit {0}
KeepsAtMost most (Keep session answer) = Unit {0}
KeepsAtMost most (Bury session answer) = Unit {0}
KeepsAtMost most (Sweep now answer) = Unit {0}
KeepsAtMost most (LendPlace slot answer) = Unit {0}
KeepsAtMost most (TakePlace place answer) = Unit {0}
