-- Sessions that may go for a newcomer: parked, with nothing held, and without a place in a group.
use Rattle.std.specs.Prelude.{◌≡◌, ◌⊎◌, ℕ, ◌<◌, ◌≤◌, []}
use Rattle.member_window.specs.Contents.{held_of}
use Rattle.session_desk.specs.declared.session.Session.{Session}
use Rattle.session_desk.specs.declared.session.Membership.TheVariants.{NotMember}
use Rattle.session_desk.specs.declared.row.Row.{Row}
use Rattle.session_desk.specs.declared.row.Holder.TheVariants.{Parked}
use Rattle.session_desk.specs.Sessions.{parked_from}
use Rattle.session_desk.specs.Rows.{Rows, HasRow}

-- it holds nothing, and has no place in a group
pub record IsIdle {E P : Type 0} (session : Session E P) : Type 0 where
  pub holds_nothing : held_of session.window ≡ []
  pub has_no_place : session.membership ≡ NotMember

-- its session is parked and idle
abbrev pub IsIdleIn : {E P : Type 0} → Row E P → Type 0
IsIdleIn {E} {P} row = (session : Session E P) × (row.held_by ≡ Parked session) × IsIdle session

-- and was parked at this moment
abbrev pub IsIdleFrom : {E P : Type 0} → Row E P → ℕ → Type 0
IsIdleFrom {E} {P} row moment = (session : Session E P) × (row.held_by ≡ Parked session) × IsIdle session × (parked_from session.expiry ≡ moment)

-- and was parked at this moment or before
abbrev pub IsIdleSince : {E P : Type 0} → ℕ → Row E P → Type 0
IsIdleSince {E} {P} moment row = (session : Session E P) × (row.held_by ≡ Parked session) × IsIdle session × (parked_from session.expiry ≤ moment)

-- one was parked at this moment, and none before
pub record IsFirstIdle {E P : Type 0} (rows : Rows E P) (moment : ℕ) : Type 0 where
  pub number : ℕ
  pub row : Row E P
  pub has : HasRow rows number row
  pub idle : IsIdleFrom row moment
  pub first : (other their_moment : ℕ) (their : Row E P) → HasRow rows other their → IsIdleFrom their their_moment → moment ≤ their_moment

-- of the idle sessions the one that has been parked longest has this row; of those that were parked at one moment, the one that was new before the others
pub record IsParkedLongest {E P : Type 0} (rows : Rows E P) (number : ℕ) (row : Row E P) (session : Session E P) : Type 0 where
  pub has : HasRow rows number row
  pub stands : row.held_by ≡ Parked session
  pub idle : IsIdle session
  pub longest : (other : ℕ) (their : Row E P) (theirs : Session E P) → HasRow rows other their → their.held_by ≡ Parked theirs → IsIdle theirs
      → (parked_from session.expiry < parked_from theirs.expiry) ⊎ ((parked_from session.expiry ≡ parked_from theirs.expiry) × (number ≤ other))
