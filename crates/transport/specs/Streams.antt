-- What a read gives and what a write takes: lists of bytes, where they are known.
use Rattle.std.specs.Prelude.{ℕ, ◌<◌, ◌≤◌, List, length, take, Option}
use Rattle.std.specs.Io.KnownBytes.{append_known}
use Rattle.transport.specs.declared.answers.Got.{Got}
use Rattle.transport.specs.declared.answers.Got.TheVariants as got
use Rattle.transport.specs.declared.answers.Put.{Put}
use Rattle.transport.specs.declared.answers.Put.TheVariants as put

-- a read gives at least a byte, and no more than its buffer has room for
abbrev pub GivesWithin : Got → List ℕ → Type 0
GivesWithin (got.Bytes count) buffer = (0 < count) × (count ≤ length buffer)
GivesWithin got.Idle buffer = Unit {0}
GivesWithin got.End buffer = Unit {0}
GivesWithin got.Failed buffer = Unit {0}

-- all that reads gave, after one of which this is left in the buffer
abbrev pub after_read : Option (List ℕ) → Got → List ℕ → Option (List ℕ)
after_read known (got.Bytes count) buffer = append_known known (take count buffer)
after_read known got.Idle buffer = known
after_read known got.End buffer = known
after_read known got.Failed buffer = known

-- a write takes at least a byte, and none that it was not given
abbrev pub TakesWithin : Put → List ℕ → Type 0
TakesWithin (put.Wrote count) bytes = (0 < count) × (count ≤ length bytes)
TakesWithin put.Idle bytes = Unit {0}
TakesWithin put.Failed bytes = Unit {0}

-- all that writes took, after one of these bytes
abbrev pub after_write : Option (List ℕ) → Put → List ℕ → Option (List ℕ)
after_write known (put.Wrote count) bytes = append_known known (take count bytes)
after_write known put.Idle bytes = known
after_write known put.Failed bytes = known
