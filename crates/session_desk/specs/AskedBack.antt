-- Which connections were asked for a session since one was lent to them, by the calls that were made of a desk.
use Rattle.std.specs.Prelude.{◌≡◌, ◌⊎◌, ℕ, List, [], ◌∷◌, Result, Ok, Err}
use Rattle.session_desk.specs.declared.attached.Attached.{Attached}
use Rattle.session_desk.specs.declared.attached.Attached.TheVariants.{New, Resumed, Replace, Busy}
use Rattle.session_desk.specs.declared.error.DeskError.{DeskError}
use Rattle.session_desk.specs.Calls.{Call, Attach}

-- an answer that lends a session
abbrev pub IsLoan : {E P : Type 0} → Result (Attached E P) DeskError → Type 0
IsLoan (Ok (New session ended)) = Unit {0}
IsLoan (Ok (Resumed session)) = Unit {0}
IsLoan (Ok (Replace holder)) = ⊥
IsLoan (Ok Busy) = ⊥
IsLoan (Err error) = ⊥

-- one that asks this connection for the session that was lent to it
abbrev pub IsReplace : {E P : Type 0} → ℕ → Result (Attached E P) DeskError → Type 0
IsReplace connection (Ok (Replace holder)) = holder ≡ connection
IsReplace connection (Ok (New session ended)) = ⊥
IsReplace connection (Ok (Resumed session)) = ⊥
IsReplace connection (Ok Busy) = ⊥
IsReplace connection (Err error) = ⊥

-- a call that lends a session to this connection
abbrev pub LendsTo : {E P : Type 0} → ℕ → Call E P → Type 0
LendsTo connection (Attach newcomers request answer) = (request.connection ≡ connection) × IsLoan answer
LendsTo connection _ = ⊥

-- a call that asks it for its session: Replace is answered to another
abbrev pub AsksBack : {E P : Type 0} → ℕ → Call E P → Type 0
AsksBack connection (Attach newcomers request answer) = IsReplace connection answer
AsksBack connection _ = ⊥

-- none of these calls lends it a session
abbrev pub NoneLends : {E P : Type 0} → ℕ → List (Call E P) → Type 0
NoneLends connection [] = Unit {0}
NoneLends connection (call ∷ calls) = ¬ LendsTo connection call × NoneLends connection calls

-- one of these calls asks it for its session, and none after that lends it one
abbrev pub IsAskedBack : {E P : Type 0} → ℕ → List (Call E P) → Type 0
IsAskedBack connection [] = ⊥
IsAskedBack connection (call ∷ calls) = (AsksBack connection call × NoneLends connection calls) ⊎ IsAskedBack connection calls
