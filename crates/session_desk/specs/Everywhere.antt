-- What holds of everything that a desk has, of what is handed to it, and of what it hands out: a property of sessions, and one of places.
use Rattle.std.specs.Prelude.{◌≡◌, ℕ, List, [], ◌∷◌, Some, Result, Ok, Err, IfSome, ⊤}
use Rattle.session_desk.specs.declared.attached.Attached.{Attached}
use Rattle.session_desk.specs.declared.attached.Attached.TheVariants.{New, Resumed, Replace, Busy}
use Rattle.session_desk.specs.declared.error.DeskError.{DeskError}
use Rattle.session_desk.specs.declared.session.Session.{Session}
use Rattle.session_desk.specs.declared.session.Membership.{Membership}
use Rattle.session_desk.specs.declared.session.Membership.TheVariants.{NotMember, Member, Leaving}
use Rattle.session_desk.specs.declared.row.Row.{Row}
use Rattle.session_desk.specs.Rows.{HasRow, session_in}
use Rattle.session_desk.specs.Places.{IsFreeAt}
use Rattle.session_desk.specs.Books.{Books}
use Rattle.session_desk.specs.Calls.{Call, Attach, Park, ParkAsIs, Keep, Bury, Sweep, LendPlace, TakePlace}

-- of the place of a member
abbrev pub IfMember : {P : Type 0} → (P → Type 0) → Membership P → Type 0
IfMember Fits NotMember = ⊤
IfMember Fits (Member place) = Fits place
IfMember Fits (Leaving place) = Fits place

module _ {E P : Type 0} (Holds : Session E P → Type 0) (Fits : P → Type 0) where
  -- all sessions that the desk keeps have theirs, and all free places
  pub record IsEverywhere (b : Books E P) : Type 0 where
    pub sessions : (number : ℕ) (row : Row E P) (session : Session E P) → HasRow b.rows number row → session_in row.held_by ≡ Some session → Holds session
    pub places : (cell : ℕ) (place : P) → IsFreeAt b.free cell place → Fits place

  -- what a call hands in has it
  abbrev pub GoesIn : Call E P → Type 0
  GoesIn (Park session now answer) = Holds session
  GoesIn (ParkAsIs session answer) = Holds session
  GoesIn (Keep session answer) = Holds session
  GoesIn (Bury session answer) = Holds session
  GoesIn (TakePlace place answer) = Fits place
  GoesIn _ = ⊤

  abbrev pub AllGoIn : List (Call E P) → Type 0
  AllGoIn [] = ⊤
  AllGoIn (call ∷ calls) = GoesIn call × AllGoIn calls

  -- what it hands out has it: sessions that are new, resumed, ended or swept, places that are lent, and what is handed back
  abbrev pub IsAttachedSo : Result (Attached E P) DeskError → Type 0
  IsAttachedSo (Ok (New session ended)) = Holds session × IfSome ended Holds
  IsAttachedSo (Ok (Resumed session)) = Holds session
  IsAttachedSo (Ok (Replace holder)) = ⊤
  IsAttachedSo (Ok Busy) = ⊤
  IsAttachedSo (Err error) = ⊤

  abbrev pub ComesOut : Call E P → Type 0
  ComesOut (Attach newcomers request answer) = IsAttachedSo answer
  ComesOut (Park session now answer) = IfSome answer Holds
  ComesOut (ParkAsIs session answer) = IfSome answer Holds
  ComesOut (Keep session answer) = IfSome answer Holds
  ComesOut (Bury session answer) = IfSome answer Holds
  ComesOut (Sweep now answer) = IfSome answer Holds
  ComesOut (LendPlace slot answer) = IfSome answer Fits
  ComesOut (TakePlace place answer) = IfSome answer Fits
  ComesOut _ = ⊤
