-- The bytes so far.
use Rattle.std.proofs.Common.{◌≡◌, ◌++◌, map, take}
use Rattle.broker_log.specs.Lines.{shown_byte}
use Rattle.broker_log.proofs.line.add_shown.Given as goal

abbrev pub invariant-loop-byte : goal.invariant-loop-byte
invariant-loop-byte l = l.bytes.items ≡ l.fn.bytes.items ++ map shown_byte (take l.byte-index l.text)
