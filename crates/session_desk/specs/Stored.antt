-- What the calls of a desk put into a session's row, and take out of it.
use Rattle.std.specs.Prelude.{◌≡◌, ℕ, nat_eq, if◌then◌else◌, List, [], ◌∷◌, Option, Some, None, Result, Ok, Err}
use Rattle.std.specs.Option.{option_or}
use Rattle.session_desk.specs.declared.attached.Attached.{Attached}
use Rattle.session_desk.specs.declared.attached.Attached.TheVariants.{New, Resumed, Replace, Busy}
use Rattle.session_desk.specs.declared.error.DeskError.{DeskError}
use Rattle.session_desk.specs.declared.session.Session.{Session}
use Rattle.session_desk.specs.Keeping.{parked_at}
use Rattle.session_desk.specs.Calls.{Call, Attach, Park, ParkAsIs, Keep, Sweep}

-- the session, where it is the one with this number
abbrev pub its : {E P : Type 0} → ℕ → Session E P → Session E P → Option (Session E P)
its number session stored = if nat_eq session.identity.number number then Some stored else None

-- what a call puts into the row of the session with this number: a session that is parked, with the moment, or kept
abbrev pub put_in : {E P : Type 0} → ℕ → Call E P → Option (Session E P)
put_in number (Park session now None) = its number session (parked_at session now)
put_in number (ParkAsIs session None) = its number session session
put_in number (Keep session None) = its number session session
put_in number _ = None

-- the last that was put in by these calls
abbrev pub last_in : {E P : Type 0} → ℕ → List (Call E P) → Option (Session E P)
last_in number [] = None
last_in number (call ∷ calls) = option_or (last_in number calls) (put_in number call)

-- an answer that has this session out of its row
abbrev pub IsOutBy : {E P : Type 0} → Result (Attached E P) DeskError → Session E P → Type 0
IsOutBy (Ok (New session (Some ended))) out = ended ≡ out
IsOutBy (Ok (New session None)) out = ⊥
IsOutBy (Ok (Resumed session)) out = session ≡ out
IsOutBy (Ok (Replace holder)) out = ⊥
IsOutBy (Ok Busy) out = ⊥
IsOutBy (Err error) out = ⊥

-- a call that takes this session out of its row: to resume it, to end it for a new one, or to be retired
abbrev pub TakesOut : {E P : Type 0} → Call E P → Session E P → Type 0
TakesOut (Attach newcomers request answer) out = IsOutBy answer out
TakesOut (Sweep now (Some session)) out = session ≡ out
TakesOut _ out = ⊥
