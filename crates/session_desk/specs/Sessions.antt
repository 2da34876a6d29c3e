-- A session: who it is, and when it is over by time.
use Rattle.std.specs.Prelude.{◌≡◌, ◌≢◌, ℕ, ◌+◌, ◌*◌, ◌≤◌, List, Some}
use Rattle.std.specs.Option.{unwrap_or}
use Rattle.session_desk.specs.declared.session.SessionExpiry.{SessionExpiry}

-- who a session is: its number, by the order in which the desk's sessions were new, and its client's identifier (3.1.3.1)
pub record Who : Type 0 where
  pub number : ℕ
  pub client : List ℕ

-- a Session Expiry Interval of e seconds is over from 1,000 e milliseconds after the session was parked last; one of
-- 4,294,967,295 never is, and none is of a session that was never parked (3.1.2.11.2)
abbrev pub IsOver : SessionExpiry → ℕ → Type 0
IsOver expiry now =
    (expiry.seconds ≢ 4294967295) × ((parked : ℕ) × (expiry.parked ≡ Some parked) × (parked + 1000 * expiry.seconds ≤ now))

-- the moment at which the session was parked, in milliseconds; 0 where it has not been since a connection began with it
abbrev pub parked_from : SessionExpiry → ℕ
parked_from expiry = unwrap_or expiry.parked 0
