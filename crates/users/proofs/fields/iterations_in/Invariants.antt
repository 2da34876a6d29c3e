-- The digits so far spell a number.
use Rattle.std.proofs.Common.{◌≡◌, ◌≤◌, length, Some}
use Rattle.users.specs.Lines.{with_digits}
use Rattle.users.proofs.fields.iterations_in.Given as goal

abbrev pub invariant-loop-byte : goal.invariant-loop-byte
invariant-loop-byte l = record {
  spells : with_digits (Some 0) l.digits ≡ with_digits (Some l.number) l.rest;
  few : l.number ≤ 1000000;
}

abbrev pub decreases-loop-byte : goal.decreases-loop-byte
decreases-loop-byte l = length l.rest
