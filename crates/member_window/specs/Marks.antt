-- The marks of a session's transcript, and where they leave the session: what is held, what is owed, and the quota.
use Rattle.std.specs.Prelude.{ℕ, min, Bool, true, false, List, [], ◌∷◌, ◌++◌, Option, Some, None}
use Rattle.limits.specs.Limits.{most_unacknowledged}
use Rattle.member_window.specs.Identifiers.{entries_without, identifiers_without}

-- what happens to what a server has sent to a client with QoS 1, in its order
pub data Mark (T : Type 0) : Type 0 where
  -- a connection begins, with its Receive Maximum (3.1.2.11.3)
  Up : (receive_maximum : ℕ) → Mark T
  -- a PUBLISH packet is given to be written: its packet identifier, its DUP flag and its item (3.3.1.1, 3.3.2.2)
  Sent : (identifier : ℕ) → (dup : Bool) → (item : T) → Mark T
  -- a PUBACK is taken, with its reason code (3.4)
  Acked : (identifier code : ℕ) → Mark T
  -- the connection ends
  Down : Mark T

-- where a transcript leaves its session
pub record WindowState (T : Type 0) : Type 0 where
  -- what was sent fresh, with DUP 0, and not acknowledged since, in order of first sending (4.4)
  pub held : List (ℕ × T)
  -- the identifiers that were sent since the last `Up` and not acknowledged since; none after `Down` (4.9)
  pub owed : List ℕ
  -- how many may be owed at once: the last Receive Maximum, cut to 256 (profile); none while no connection is up
  pub quota : Option ℕ

-- no connection is up, and these entries are held
abbrev pub window_down : {T : Type 0} → List (ℕ × T) → WindowState T
window_down entries = record { held = entries; owed = []; quota = None }

-- what is held after a PUBLISH packet: one that is sent again, with DUP 1, is held already (3.3.1.1)
abbrev pub held_after_sent : {T : Type 0} → List (ℕ × T) → ℕ → Bool → T → List (ℕ × T)
held_after_sent entries identifier false item = entries ++ (identifier, item) ∷ []
held_after_sent entries identifier true item = entries

-- where one mark leads
abbrev pub window_after : {T : Type 0} → WindowState T → Mark T → WindowState T
window_after s (Up receive_maximum) = record { held = s.held; owed = []; quota = Some (min receive_maximum most_unacknowledged) }
window_after s (Sent identifier dup item) =
    record { held = held_after_sent s.held identifier dup item; owed = s.owed ++ identifier ∷ []; quota = s.quota }
window_after s (Acked identifier code) =
    record { held = entries_without identifier s.held; owed = identifiers_without identifier s.owed; quota = s.quota }
window_after s Down = window_down s.held

-- where all these marks lead
abbrev pub window_after_all : {T : Type 0} → WindowState T → List (Mark T) → WindowState T
window_after_all s [] = s
window_after_all s (mark ∷ marks) = window_after_all (window_after s mark) marks

-- what is held after a transcript that begins with these entries, no connection being up
abbrev pub held : {T : Type 0} → List (ℕ × T) → List (Mark T) → List (ℕ × T)
held entries marks = (window_after_all (window_down entries) marks).held

-- what is owed after it
abbrev pub owed : {T : Type 0} → List (ℕ × T) → List (Mark T) → List ℕ
owed entries marks = (window_after_all (window_down entries) marks).owed
