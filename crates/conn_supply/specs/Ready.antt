-- What a supply owes of the sessions that it lends.
use Rattle.std.specs.Prelude.{◌≡◌, false, ⊤, List, IfSome}
use Rattle.group_jobs.specs.Stamps.{Held}
use Rattle.session_desk.specs.declared.attached.Attached.{Attached}
use Rattle.session_desk.specs.declared.attached.Attached.TheVariants.{New, Resumed, Replace, Busy}
use Rattle.session_desk.specs.declared.session.Session.{Session}
use Rattle.conn_supply.specs.Holding.{IsOutAtPlace}

module _ {P : Type 0} (HasOut : P → List Held → Type 0) where
  -- a session is not ending, and what it holds is out at its place
  pub record IsSoundSession (session : Session Held P) : Type 0 where
    pub going : session.window.retired ≡ false
    pub out : IsOutAtPlace HasOut session

  -- a session that a connection gets is so; and one that was ended has out at its place what it holds
  abbrev pub IsReady : Attached Held P → Type 0
  IsReady (New session ended) = IsSoundSession session × IfSome ended (IsOutAtPlace HasOut)
  IsReady (Resumed session) = IsSoundSession session
  IsReady (Replace holder) = ⊤
  IsReady Busy = ⊤
