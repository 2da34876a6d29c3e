-- The pieces of the lines so far are those in front.
use Rattle.std.proofs.Common.{◌+◌, ◌≤◌, length}
use Rattle.drive.specs.Pieces.{cut_by, AddUpTo, opened}
use Rattle.drive.proofs.Streams.{Spells}
use Rattle.drive.proofs.stream.read_pieces.Given as goal

abbrev pub invariant-loop-rest : goal.invariant-loop-rest
invariant-loop-rest l = record {
  spells : Spells l.input (opened (cut_by l.sizes.items l.bytes.items)) l.number l.rest;
  whole : AddUpTo l.sizes.items l.bytes.items;
  few : l.number + length l.rest ≤ length l.input;
}

abbrev pub decreases-loop-rest : goal.decreases-loop-rest
decreases-loop-rest l = length l.rest
