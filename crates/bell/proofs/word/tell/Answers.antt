use Rattle.std.proofs.Common.{arith}
use Rattle.bell.proofs.Moves.{tells_on}
use Rattle.bell.proofs.word.tell.Goals as goal

pub split_seat-requires : goal.split_seat-requires
split_seat-requires c = (c.requires.word.1, omega arith, tells_on _ _)
