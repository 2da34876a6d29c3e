-- Which transcripts of a session are legal: OASIS MQTT 5.0, delivery retry (4.4) and flow control (4.9).
use Rattle.std.specs.Prelude.{◌≡◌, ℕ, ◌≤◌, true, false, List, [], ◌∷◌, ◌++◌, length, IsSome, IfSome, All, Contains}
use Rattle.member_window.specs.Identifiers.{identifiers, IsLeastFree}
use Rattle.member_window.specs.Marks.{Mark, Up, Sent, Acked, Down, WindowState, window_down, window_after, window_after_all}

-- no more is owed than the quota: the client's Receive Maximum is kept (4.9, 3.3.4)
abbrev pub IsWithinQuota : {T : Type 0} → WindowState T → Type 0
IsWithinQuota s = IfSome s.quota (λ quota. length s.owed ≤ quota)

-- everything that is held was sent on this connection: what is held and was sent since the last `Up` is owed
abbrev pub NoneWaits : {T : Type 0} → WindowState T → Type 0
NoneWaits s = All (λ entry. Contains s.owed entry.0) s.held

-- a PUBLISH packet may be sent fresh under this identifier
pub record MaySend {T : Type 0} (s : WindowState T) (identifier : ℕ) : Type 0 where
  -- nothing is sent while no connection is up
  pub up : IsSome s.quota
  -- the least identifier that nothing held has (2.2.1, profile)
  pub least : IsLeastFree (identifiers s.held) identifier
  -- what was sent on an earlier connection was sent again before (4.4)
  pub none_waits : NoneWaits s

-- a PUBLISH packet may be sent again, with this identifier and this item
pub record MayResend {T : Type 0} (s : WindowState T) (identifier : ℕ) (item : T) : Type 0 where
  pub up : IsSome s.quota
  pub before : List (ℕ × T)
  pub behind : List (ℕ × T)
  -- it is held, under its own identifier (4.4)
  pub is_held : s.held ≡ before ++ (identifier, item) ∷ behind
  -- it was not sent on this connection: a packet is sent again only after a reconnect (4.4)
  pub unsent : ¬ Contains s.owed identifier
  -- what was first sent before it was sent on this connection: in the order of first sending (4.6)
  pub in_order : All (λ entry. Contains s.owed entry.0) before

-- this mark may come next
abbrev pub MayCome : {T : Type 0} → WindowState T → Mark T → Type 0
MayCome s (Up receive_maximum) = Unit {0}
MayCome s (Sent identifier false item) = MaySend s identifier
MayCome s (Sent identifier true item) = MayResend s identifier item
-- only what is held is acknowledged
MayCome s (Acked identifier code) = Contains (identifiers s.held) identifier
MayCome s Down = Unit {0}

-- the marks may follow one another from here, and the quota is kept at each moment
abbrev pub IsLegalFrom : {T : Type 0} → WindowState T → List (Mark T) → Type 0
IsLegalFrom s [] = IsWithinQuota s
IsLegalFrom s (mark ∷ marks) = IsWithinQuota s × MayCome s mark × IsLegalFrom (window_after s mark) marks

-- a legal transcript of a session that holds these entries while no connection is up; of a new session, none
abbrev pub IsLegal : {T : Type 0} → List (ℕ × T) → List (Mark T) → Type 0
IsLegal entries marks = IsLegalFrom (window_down entries) marks

-- the same, said of each moment: at each prefix, the whole transcript among them, the quota is kept, and the mark after it may come
pub record IsLegalAtEachPrefix {T : Type 0} (entries : List (ℕ × T)) (marks : List (Mark T)) : Type 0 where
  pub quota : (prefix rest : List (Mark T)) → prefix ++ rest ≡ marks → IsWithinQuota (window_after_all (window_down entries) prefix)
  pub next : (prefix : List (Mark T)) (mark : Mark T) (rest : List (Mark T)) → prefix ++ mark ∷ rest ≡ marks → MayCome (window_after_all (window_down entries) prefix) mark
