-- What a broker begins with.
use Rattle.std.specs.Prelude.{ℕ}
use Rattle.limits.specs.Limits.{most_waiting}

-- the most messages that may wait in the queue of a group (profile)
abbrev pub most_capacity : ℕ
most_capacity = most_waiting
