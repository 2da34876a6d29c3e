-- The users so far are those of the lines in front.
use Rattle.std.proofs.Common.{◌+◌, ◌≤◌, length}
use Rattle.users.specs.Layout.{seen}
use Rattle.users.proofs.Files.{Spells}
use Rattle.users.proofs.file.read.Given as goal

abbrev pub invariant-loop-rest : goal.invariant-loop-rest
invariant-loop-rest l = record {
  spells : Spells l.text (seen l.users.entries) l.number l.rest;
  few : l.number + length l.rest ≤ length l.text;
}

abbrev pub decreases-loop-rest : goal.decreases-loop-rest
decreases-loop-rest l = length l.rest
