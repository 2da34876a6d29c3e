use Rattle.std.proofs.Common.{arith}
use Rattle.bell.proofs.Moves.{rings_once}
use Rattle.bell.proofs.word.ring.Goals as goal

pub fetch_add-requires : goal.fetch_add-requires
fetch_add-requires c = (c.requires.word.1, omega arith, rings_once _ _ _)
