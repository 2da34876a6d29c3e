-- The digits so far spell a number.
use Rattle.std.proofs.Common.{◌≡◌, length, Some}
use Rattle.drive.specs.Words.{number_of, with_digits}
use Rattle.drive.proofs.numbers.number.Given as goal

abbrev pub invariant-loop-byte : goal.invariant-loop-byte
invariant-loop-byte l = number_of l.word ≡ with_digits (Some l.number) l.rest

abbrev pub decreases-loop-byte : goal.decreases-loop-byte
decreases-loop-byte l = length l.rest
