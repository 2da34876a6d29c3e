-- The events so far, and those of the pieces that are left, are all of them.
use Rattle.std.proofs.Common.{◌≡◌, ◌++◌, map, drop}
use Rattle.drive.specs.Pieces.{cut_by, AddUpTo, comes, opened}
use Rattle.drive.proofs.stream.life.Given as goal

abbrev pub invariant-loop-size : goal.invariant-loop-size
invariant-loop-size l = record {
  left : opened (cut_by l.fn.pieces.sizes.items l.fn.pieces.bytes.items) ≡ l.events.items ++ map comes (cut_by (drop l.size-index l.fn.pieces.sizes.items) l.stream);
  whole : AddUpTo (drop l.size-index l.fn.pieces.sizes.items) l.stream;
}
