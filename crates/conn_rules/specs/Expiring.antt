-- How long a message may wait for a member, and what is left of that (section 3.3.2.3.3). Moments are in milliseconds.
use Rattle.std.specs.Prelude.{ℕ, ◌*◌, ◌-◌, ◌/◌, nat_le, Bool, false, Option, Some, None}
use Rattle.group_jobs.specs.declared.message.MessageExpiry.{MessageExpiry}

-- when a message expires that came at this moment with this Message Expiry Interval, if with any
abbrev pub expiry_from : ℕ → Option ℕ → Option MessageExpiry
expiry_from now None = None
expiry_from now (Some seconds) = Some (record { seconds = seconds; accepted_at = now })

-- how long it has waited; nothing, where the clock of who looks is behind that of the publisher's connection
abbrev pub waited : ℕ → MessageExpiry → ℕ
waited now expiry = now - expiry.accepted_at

-- it has expired once it has waited as long as it may, and never where it came without an interval
abbrev pub is_expired : ℕ → Option MessageExpiry → Bool
is_expired now None = false
is_expired now (Some expiry) = nat_le (1000 * expiry.seconds) (waited now expiry)

-- the interval that it goes out with: what it came with less the whole seconds that it has waited, and not below 0
abbrev pub interval_left : ℕ → Option MessageExpiry → Option ℕ
interval_left now None = None
interval_left now (Some expiry) = Some (expiry.seconds - waited now expiry / 1000)
