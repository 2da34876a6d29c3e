-- To which connection a session is lent, by a history.
use Rattle.std.specs.Prelude.{◌≡◌, ℕ, List, ◌∷◌, ◌++◌, Result, Ok, Err}
use Rattle.group_jobs.specs.Stamps.{Held}
use Rattle.session_desk.specs.declared.attached.Attached.{Attached}
use Rattle.session_desk.specs.declared.attached.Attached.TheVariants.{New, Resumed, Replace, Busy}
use Rattle.session_desk.specs.declared.error.DeskError.{DeskError}
use Rattle.session_desk.specs.Calls.{Call, Attach}
use Rattle.session_desk.specs.Hands.{handed_in, total}

module _ {P : Type 0} where
  -- an answer that lends the session with this number
  abbrev pub IsLoanOf : ℕ → Result (Attached Held P) DeskError → Type 0
  IsLoanOf number (Ok (New session ended)) = session.identity.number ≡ number
  IsLoanOf number (Ok (Resumed session)) = session.identity.number ≡ number
  IsLoanOf number (Ok (Replace holder)) = ⊥
  IsLoanOf number (Ok Busy) = ⊥
  IsLoanOf number (Err error) = ⊥

  -- a call that lends it to this connection
  abbrev pub Lends : ℕ → ℕ → Call Held P → Type 0
  Lends number connection (Attach newcomers request answer) = (request.connection ≡ connection) × IsLoanOf number answer
  Lends number connection _ = ⊥

  -- the session was lent to this connection, and not handed in since
  pub record IsHolder (calls : List (Call Held P)) (number connection : ℕ) : Type 0 where
    pub before : List (Call Held P)
    pub loan : Call Held P
    pub since : List (Call Held P)
    pub is : calls ≡ before ++ loan ∷ since
    pub lends : Lends number connection loan
    pub kept : total (handed_in number) since ≡ 0
