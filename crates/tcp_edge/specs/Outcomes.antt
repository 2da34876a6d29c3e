-- What a call of a stream that never waits comes to, and what that is to who reads and writes.
use Rattle.std.specs.Prelude.{ℕ, ◌≤◌, ◌+◌, nat_eq, nat_lt, if◌then◌else◌, List, length, take, Option, Result, Ok, Err}
use Rattle.std.specs.Io.KnownBytes.{append_known}
use Rattle.std.specs.IoError.{error_kind}
use Rattle.std_io.specs.declared.io.error.Error.{Error}
use Rattle.std_io.specs.declared.io.kind.ErrorKind.{ErrorKind}
use Rattle.std_io.specs.declared.io.kind.ErrorKind.TheVariants as kind
use Rattle.tcp_edge.specs.declared.wire.IoOutcome.{IoOutcome}
use Rattle.tcp_edge.specs.declared.wire.IoOutcome.TheVariants as outcome
use Rattle.transport.specs.declared.answers.Got.{Got}
use Rattle.transport.specs.declared.answers.Got.TheVariants as got
use Rattle.transport.specs.declared.answers.Put.{Put}
use Rattle.transport.specs.declared.answers.Put.TheVariants as put
use Rattle.transport.specs.Counting.{greatest}

-- of an error: it passes, or the stream failed
abbrev pub outcome_of_kind : ErrorKind → IoOutcome
outcome_of_kind kind.WouldBlock = outcome.NotNow
outcome_of_kind kind.Interrupted = outcome.NotNow
outcome_of_kind _ = outcome.Broken

-- of an answer of the system's
abbrev pub outcome_of : Result ℕ Error → IoOutcome
outcome_of (Ok count) = outcome.Count count
outcome_of (Err error) = outcome_of_kind (error_kind error)

-- no more bytes came or went than there are
abbrev pub CountsWithin : IoOutcome → List ℕ → Type 0
CountsWithin (outcome.Count count) bytes = count ≤ length bytes
CountsWithin outcome.NotNow bytes = Unit {0}
CountsWithin outcome.Broken bytes = Unit {0}

-- all that came or went, after a call with these bytes
abbrev pub passed_on : Option (List ℕ) → IoOutcome → List ℕ → Option (List ℕ)
passed_on known (outcome.Count count) bytes = append_known known (take count bytes)
passed_on known outcome.NotNow bytes = known
passed_on known outcome.Broken bytes = known

-- what a read into a buffer with room gives: no byte is the end
abbrev pub got_of : IoOutcome → Got
got_of (outcome.Count count) = if nat_eq count 0 then got.End else got.Bytes count
got_of outcome.NotNow = got.Idle
got_of outcome.Broken = got.Failed

-- what a write of some bytes takes, after so many that were idle: no byte is a failure, and so is one idle write more than can be counted
abbrev pub put_of : IoOutcome → ℕ → Put
put_of (outcome.Count count) refused = if nat_eq count 0 then put.Failed else put.Wrote count
put_of outcome.NotNow refused = if nat_lt refused greatest then put.Idle else put.Failed
put_of outcome.Broken refused = put.Failed

-- how many writes were idle, after one more write
abbrev pub raised : Put → ℕ → ℕ
raised (put.Wrote count) refused = refused
raised put.Idle refused = refused + 1
raised put.Failed refused = refused
