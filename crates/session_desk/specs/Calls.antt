-- The calls of a desk: what each needs of its caller, what it answers, and what it makes of the books.
use Rattle.std.specs.Prelude.{◌≡◌, ℕ, ◌<◌, ◌≤◌, ◌↔◌, Bool, false, List, [], ◌∷◌, length, Option, Result, IsTrue}
use Rattle.limits.specs.Limits.{most_connections}
use Rattle.session_desk.specs.declared.attached.Attached.{Attached}
use Rattle.session_desk.specs.declared.error.DeskError.{DeskError}
use Rattle.session_desk.specs.declared.newcomers.Newcomers.{Newcomers}
use Rattle.session_desk.specs.declared.session.Session.{Session}
use Rattle.session_desk.specs.Rows.{Rows}
use Rattle.session_desk.specs.Books.{Books, IsKicked, with_rows, with_free, after_withdraw}
use Rattle.session_desk.specs.Attaching.{Request, Attaches}
use Rattle.session_desk.specs.Keeping.{Parks, ParksAsIs, Keeps, Buries}
use Rattle.session_desk.specs.Places.{LendsPlace, TakesPlace}
use Rattle.session_desk.specs.Sweeping.{Sweeps}

-- a call of a desk, with its arguments and its answer
pub data Call (E P : Type 0) : Type 0 where
  Attach : (newcomers : Newcomers) → (request : Request) → (answer : Result (Attached E P) DeskError) → Call E P
  Withdraw : (connection : ℕ) → Call E P
  Kicked : (connection : ℕ) → (answer : Bool) → Call E P
  Park : (session : Session E P) → (now : ℕ) → (answer : Option (Session E P)) → Call E P
  ParkAsIs : (session : Session E P) → (answer : Option (Session E P)) → Call E P
  Keep : (session : Session E P) → (answer : Option (Session E P)) → Call E P
  Bury : (session : Session E P) → (answer : Option (Session E P)) → Call E P
  Sweep : (now : ℕ) → (answer : Option (Session E P)) → Call E P
  LendPlace : (slot : ℕ) → (answer : Option P) → Call E P
  TakePlace : (place : P) → (answer : Option P) → Call E P

-- what a call needs of its caller
abbrev pub IsAllowed : {E P : Type 0} → Call E P → Type 0
IsAllowed (Attach newcomers request answer) = (request.connection < most_connections) × (length request.client ≤ 128)
IsAllowed (Park session now answer) = session.window.retired ≡ false
IsAllowed (ParkAsIs session answer) = session.window.retired ≡ false
IsAllowed (Withdraw connection) = Unit {0}
IsAllowed (Kicked connection answer) = Unit {0}
IsAllowed (Keep session answer) = Unit {0}
IsAllowed (Bury session answer) = Unit {0}
IsAllowed (Sweep now answer) = Unit {0}
IsAllowed (LendPlace slot answer) = Unit {0}
IsAllowed (TakePlace place answer) = Unit {0}

module _ {P : Type 0} (cell : P → ℕ) where
  -- what a call makes of the books; each place has a cell
  abbrev pub Makes : {E : Type 0} → Books E P → Call E P → Books E P → Type 0
  Makes old (Attach newcomers request answer) new = Attaches newcomers old request answer new
  Makes old (Withdraw connection) new = new ≡ after_withdraw old connection
  Makes old (Kicked connection answer) new = (IsTrue answer ↔ IsKicked old connection) × (new ≡ old)
  Makes old (Park session now answer) new = Parks old session now answer new
  Makes old (ParkAsIs session answer) new = ParksAsIs old session answer new
  Makes old (Keep session answer) new = Keeps old session answer new
  Makes old (Bury session answer) new = Buries cell old session answer new
  Makes {E} old (Sweep now answer) new = (rows : Rows E P) × Sweeps old.rows now answer rows × (new ≡ with_rows old rows)
  Makes old (LendPlace slot answer) new = (free : List (Option P)) × LendsPlace old.free slot answer free × (new ≡ with_free old free)
  Makes old (TakePlace place answer) new = (free : List (Option P)) × TakesPlace old.free (cell place) place answer free × (new ≡ with_free old free)

  -- these calls, one after the other, each of them allowed, make new of old
  abbrev pub MakesAll : {E : Type 0} → Books E P → List (Call E P) → Books E P → Type 0
  MakesAll old [] new = new ≡ old
  MakesAll {E} old (call ∷ calls) new = IsAllowed call × ((mid : Books E P) × Makes old call mid × MakesAll mid calls new)
