-- How long a client may be silent, and a connection without a CONNECT (sections 3.1.2.10 and 3.1.4).
use Rattle.std.specs.Prelude.{ℕ, ◌*◌, nat_lt, nat_le, ◌&&◌, Bool}

-- 3.1.2.10: no packet came for one and a half times the keep alive; this is in seconds, and `silent` in milliseconds
abbrev pub is_overdue : ℕ → ℕ → Bool
is_overdue keep_alive silent = nat_lt 0 keep_alive && nat_le (1500 * keep_alive) silent

-- 3.1.4: the CONNECT comes within ten seconds (profile)
abbrev pub is_late : ℕ → Bool
is_late waited = nat_le 10000 waited
