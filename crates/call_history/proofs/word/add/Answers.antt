use Rattle.std.proofs.Common.{arith}
use Rattle.call_history.proofs.Moves.{adds}
use Rattle.call_history.proofs.word.add.Goals as goal

pub load-requires : goal.load-requires
load-requires g c = (c.requires.word.1, omega arith, adds _ _ _ g.J.Entries.added c.requires.keeps c.requires.part)
