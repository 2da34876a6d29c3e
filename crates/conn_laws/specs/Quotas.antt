-- How many PUBLISH packets of a connection may be unacknowledged (section 4.9).
use Rattle.std.specs.Prelude.{◌≡◌, ◌≤◌, ℕ, min, length, Some, ⊤}
use Rattle.group_jobs.specs.Stamps.{Held}
use Rattle.member_window.specs.Contents.{Contents}
use Rattle.conn_rules.specs.declared.terms.Terms.{Terms}
use Rattle.conn_engine.specs.declared.phase.ConnPhase.{ConnPhase}
use Rattle.conn_engine.specs.declared.phase.ConnPhase.TheVariants.{Unconnected, Waiting, Connected, Ended}

-- the least of the Receive Maximum of its CONNECT, of what the broker allows, and of 256 (3.1.2.11.3, profile)
abbrev pub quota_of : Terms → ℕ
quota_of terms = min terms.receive_maximum 256

-- a window lets so many packets be unacknowledged that were sent on this connection, and no more are
pub record KeepsQuota (quota : ℕ) (window : Contents Held) : Type 0 where
  pub is : window.quota ≡ Some quota
  pub kept : length window.owed ≤ quota

-- what a connection was opened with, asked for while it waits, or was given, lets no more packets be unacknowledged than this limit
abbrev pub IsWithinLimit : {P : Type 0} → ℕ → ConnPhase P → Type 0
IsWithinLimit limit (Unconnected opened) = opened.limits.max_inflight ≤ limit
IsWithinLimit limit (Waiting request ticks) = request.terms.receive_maximum ≤ limit
IsWithinLimit limit (Connected connected) = connected.terms.receive_maximum ≤ limit
IsWithinLimit limit Ended = ⊤

-- of the PUBLISH packets that were sent on a connection, no more are unacknowledged than its quota
abbrev pub IsWithinQuota : {P : Type 0} → ConnPhase P → Type 0
IsWithinQuota (Unconnected opened) = ⊤
IsWithinQuota (Waiting request ticks) = ⊤
IsWithinQuota (Connected connected) = KeepsQuota (quota_of connected.terms) connected.session.window
IsWithinQuota Ended = ⊤
