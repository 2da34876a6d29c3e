-- Scripts: what each read and each write of a scripted transport answers, and what it makes of the script.
use Rattle.std.specs.Prelude.{ℕ, ◌+◌, ◌-◌, ◌<◌, ◌≤◌, min, nat_eq, nat_lt, if◌then◌else◌, List, [], ◌++◌, length, take, slice_get, Option, Some, None}
use Rattle.transport.specs.declared.answers.Got.{Got}
use Rattle.transport.specs.declared.answers.Got.TheVariants as got
use Rattle.transport.specs.declared.answers.Put.{Put}
use Rattle.transport.specs.declared.answers.Put.TheVariants as put
use Rattle.transport.specs.declared.counts.Counts.{Counts}
use Rattle.scripted_transport.specs.declared.turns.ReadTurn.{ReadTurn}
use Rattle.scripted_transport.specs.declared.turns.ReadTurn.TheVariants as reading
use Rattle.scripted_transport.specs.declared.turns.WriteTurn.{WriteTurn}
use Rattle.scripted_transport.specs.declared.turns.WriteTurn.TheVariants as writing
use Rattle.transport.specs.Counting.{after_got, after_put, got_count, put_count}

-- a script, and how far it was played
pub record Script : Type 0 where
  -- all that the peer sends, and how many bytes of it were given
  pub input : List ℕ
  pub given : ℕ
  -- the turns of reads, and how many were made
  pub reads : List ReadTurn
  pub reads_made : ℕ
  -- the turns of writes
  pub writes : List WriteTurn
  pub writes_made : ℕ
  -- all that was taken, and for how many more bytes there is memory
  pub output : List ℕ
  pub room : ℕ
  pub counts : Counts

-- one that was not played yet
abbrev pub new_script : List ℕ → List ReadTurn → List WriteTurn → ℕ → Script
new_script input reads writes room =
    record { input = input; given = 0; reads = reads; reads_made = 0; writes = writes; writes_made = 0; output = []; room = room; counts = record { failures = 0; ends = 0; idles = 0 } }

-- the turn after this one, while there is one
abbrev pub next_place : {X : Type 0} → List X → ℕ → ℕ
next_place turns made = if nat_lt made (length turns) then made + 1 else made

-- so many bytes; none is idle
abbrev pub some_bytes : ℕ → Got
some_bytes count = if nat_eq count 0 then got.Idle else got.Bytes count

abbrev pub some_written : ℕ → Put
some_written count = if nat_eq count 0 then put.Idle else put.Wrote count

-- what a read gives at its turn, with so much room in its buffer, and so many bytes left: after the last turn all that fits, and then the end
abbrev pub got_at : Option ReadTurn → ℕ → ℕ → Got
got_at (Some (reading.AtMost count)) room left = some_bytes (min count (min room left))
got_at (Some reading.Idle) room left = got.Idle
got_at (Some reading.End) room left = got.End
got_at (Some reading.Failed) room left = got.Failed
got_at None room left = if nat_eq left 0 then got.End else got.Bytes (min room left)

-- what a write takes at its turn, of so many bytes, with room for so many: after the last turn all that fits, and it fails where nothing does
abbrev pub put_at : Option WriteTurn → ℕ → ℕ → Put
put_at (Some (writing.AtMost count)) size room = some_written (min count (min size room))
put_at (Some writing.Idle) size room = put.Idle
put_at (Some writing.Failed) size room = put.Failed
put_at None size room = if nat_eq room 0 then put.Failed else put.Wrote (min size room)

-- an answer gives at least a byte, and no more than there is room for, or left
abbrev pub IsWithinBoth : Got → ℕ → ℕ → Type 0
IsWithinBoth (got.Bytes count) room left = (0 < count) × (count ≤ room) × (count ≤ left)
IsWithinBoth got.Idle room left = Unit {0}
IsWithinBoth got.End room left = Unit {0}
IsWithinBoth got.Failed room left = Unit {0}

-- an answer takes at least a byte, and no more than it was given, or fits
abbrev pub TakesWithinBoth : Put → ℕ → ℕ → Type 0
TakesWithinBoth (put.Wrote count) size room = (0 < count) × (count ≤ size) × (count ≤ room)
TakesWithinBoth put.Idle size room = Unit {0}
TakesWithinBoth put.Failed size room = Unit {0}

-- the answers of a script
abbrev pub read_answer : Script → ℕ → Got
read_answer s room = got_at (slice_get s.reads s.reads_made) room (length s.input - s.given)

abbrev pub write_answer : Script → ℕ → Put
write_answer s size = put_at (slice_get s.writes s.writes_made) size s.room

-- after a read that gave this
abbrev pub played_read : Script → Got → Script
played_read s answer =
    record s { given = s.given + got_count answer; reads_made = next_place s.reads s.reads_made; counts = after_got answer s.counts }

-- after a write of these bytes that took this
abbrev pub played_write : Script → Put → List ℕ → Script
played_write s answer bytes =
    record s {
      writes_made = next_place s.writes s.writes_made;
      output = s.output ++ take (put_count answer) bytes;
      room = s.room - put_count answer;
      counts = after_put answer s.counts;
    }
