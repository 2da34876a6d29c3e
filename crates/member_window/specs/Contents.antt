-- What a window contains, as its callers see it, and what each call makes of it.
use Rattle.std.specs.Prelude.{◌≡◌, ℕ, min, ◌<◌, ◌≤◌, Bool, true, false, List, [], ◌∷◌, ◌++◌, length, drop, Option, Some, None, IsSomeAnd, MatchOption, All}
use Rattle.limits.specs.Limits.{most_unacknowledged}
use Rattle.member_window.specs.Identifiers.{identifiers, entries_without, AreDistinct}

-- a window of a session: what it was sent and has not acknowledged, each item with its packet identifier
pub record Contents (T : Type 0) : Type 0 where
  -- sent on this connection, in order of first sending (4.9)
  pub owed : List (ℕ × T)
  -- sent on an earlier connection and not on this one, in order of first sending, all of it after what is owed (4.4)
  pub waiting : List (ℕ × T)
  -- how many may be owed at once; none while no connection is up
  pub quota : Option ℕ
  -- its session is ending: `take_first` was called
  pub retired : Bool

-- all of it, in order of first sending
abbrev pub held_of : {T : Type 0} → Contents T → List (ℕ × T)
held_of w = w.owed ++ w.waiting

-- a new session's window
abbrev pub new_contents : {T : Type 0} → Contents T
new_contents = record { owed = []; waiting = []; quota = None; retired = false }

-- no connection is up
abbrev pub IsDown : {T : Type 0} → Contents T → Type 0
IsDown w = w.quota ≡ None

-- a connection is up, and the quota lets one more packet be sent (4.9)
abbrev pub HasQuota : {T : Type 0} → Contents T → Type 0
HasQuota w = IsSomeAnd w.quota (λ quota. length w.owed < quota)

-- a fresh item may be sent: what is held from earlier connections goes first (4.4)
abbrev pub HasRoom : {T : Type 0} → Contents T → Type 0
HasRoom w = HasQuota w × (w.waiting ≡ [])

-- the item that is sent again next is the first that waits; none while no connection is up, nothing waits or the quota is used up (4.4, 4.9)
abbrev pub IsNextResend : {T : Type 0} → Contents T → Option (ℕ × T) → Type 0
IsNextResend {T} w (Some entry) = HasQuota w × ((rest : List (ℕ × T)) × (w.waiting ≡ entry ∷ rest))
IsNextResend w None = HasQuota w → w.waiting ≡ []

-- a connection begins: its Receive Maximum, cut to 256, is the quota (3.1.2.11.3, profile)
abbrev pub after_up : {T : Type 0} → Contents T → ℕ → Contents T
after_up w receive_maximum = record { owed = []; waiting = held_of w; quota = Some (min receive_maximum most_unacknowledged); retired = w.retired }

-- the connection ends
abbrev pub after_down : {T : Type 0} → Contents T → Contents T
after_down w = record { owed = []; waiting = held_of w; quota = None; retired = w.retired }

-- an item is sent fresh
abbrev pub after_put : {T : Type 0} → Contents T → ℕ → T → Contents T
after_put w identifier item =
    record { owed = w.owed ++ (identifier, item) ∷ []; waiting = w.waiting; quota = w.quota; retired = w.retired }

-- the first waiting item, if one is sent again, is owed from then on
abbrev pub after_resend : {T : Type 0} → Contents T → Option (ℕ × T) → Contents T
after_resend w (Some entry) =
    record { owed = w.owed ++ entry ∷ []; waiting = drop 1 w.waiting; quota = w.quota; retired = w.retired }
after_resend w None = w

-- the item under this identifier is taken out
abbrev pub after_ack : {T : Type 0} → Contents T → ℕ → Contents T
after_ack w identifier =
    record { owed = entries_without identifier w.owed; waiting = entries_without identifier w.waiting; quota = w.quota; retired = w.retired }

-- the session is ending, and these wait still
abbrev pub after_take : {T : Type 0} → Contents T → List (ℕ × T) → Contents T
after_take w rest = record { owed = []; waiting = rest; quota = w.quota; retired = true }

-- an item is put back in front
abbrev pub after_restore : {T : Type 0} → Contents T → ℕ → T → Contents T
after_restore w identifier item =
    record { owed = []; waiting = (identifier, item) ∷ held_of w; quota = w.quota; retired = w.retired }

-- no more is owed than the quota, which is at most 256; nothing is owed while no connection is up (4.9)
abbrev pub IsQuotaKept : {T : Type 0} → Contents T → Type 0
IsQuotaKept w = MatchOption w.quota (w.owed ≡ []) (λ quota. (length w.owed ≤ quota) × (quota ≤ most_unacknowledged))

-- at most 256 entries, under identifiers from 1 to 256 that differ (2.2.1, profile)
pub record AreEntries {T : Type 0} (entries : List (ℕ × T)) : Type 0 where
  pub few : length entries ≤ most_unacknowledged
  pub in_range : All (λ entry. (1 ≤ entry.0) × (entry.0 ≤ most_unacknowledged)) entries
  pub distinct : AreDistinct (identifiers entries)

-- what holds of every window
pub record IsSound {T : Type 0} (w : Contents T) : Type 0 where
  pub entries : AreEntries (held_of w)
  pub kept : IsQuotaKept w
  pub ending : w.retired ≡ true → IsDown w
