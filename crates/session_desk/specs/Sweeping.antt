-- What a sweep hands out: a session that is ending and that the desk keeps, or else a parked one whose time is over.
use Rattle.std.specs.Prelude.{◌≡◌, ◌⊎◌, ℕ, Option, Some, None}
use Rattle.std.specs.FinMap as map
use Rattle.session_desk.specs.declared.session.Session.{Session}
use Rattle.session_desk.specs.declared.row.Row.{Row}
use Rattle.session_desk.specs.declared.row.Holder.{Holder}
use Rattle.session_desk.specs.declared.row.Holder.TheVariants.{Parked, Kept}
use Rattle.session_desk.specs.declared.sweeping.Due.{Due}
use Rattle.session_desk.specs.declared.sweeping.Due.TheVariants as due
use Rattle.session_desk.specs.Idle.{IsIdleSince}
use Rattle.session_desk.specs.Rows.{Rows, IsKept, IsOverdue, NoRow, IsOldest, away}

-- the oldest row that is so has this session in these hands, and from now on it is in the caller's, to be retired
pub record HandsOut {E P : Type 0} (old : Rows E P) (IsSo : Row E P → Type 0) (hands : Holder E P) (new : Rows E P) : Type 0 where
  pub number : ℕ
  pub oldest : IsOldest old IsSo number
  pub stood : oldest.row.held_by ≡ hands
  pub after : new ≡ map.insert old number (away oldest.row.client)

abbrev pub Sweeps : {E P : Type 0} → Rows E P → ℕ → Option (Session E P) → Rows E P → Type 0
Sweeps old now (Some session) new =
    HandsOut old IsKept (Kept session) new ⊎ (NoRow old IsKept × HandsOut old (IsOverdue now) (Parked session) new)
Sweeps old now None new = NoRow old IsKept × NoRow old (IsOverdue now) × (new ≡ old)

-- a sweep at this moment hands out nothing, and changes nothing
abbrev pub SweepsNothing : {E P : Type 0} → Rows E P → ℕ → Type 0
SweepsNothing {E} {P} rows now = (answer : Option (Session E P)) (after : Rows E P) → Sweeps rows now answer after → (answer ≡ None) × (after ≡ rows)

-- what a search among the rows looks for
abbrev pub Fits : {E P : Type 0} → Due → Row E P → Type 0
Fits due.Kept row = IsKept row
Fits (due.Over now) row = IsOverdue now row
Fits (due.IdleSince moment) row = IsIdleSince moment row
