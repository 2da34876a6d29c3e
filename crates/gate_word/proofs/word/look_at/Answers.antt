use Rattle.std.proofs.Common.{arith}
use Rattle.gate_word.proofs.Moves.{looks}
use Rattle.gate_word.proofs.word.look_at.Goals as goal

pub load-requires : goal.load-requires
load-requires c = (c.requires.word.1, omega arith, looks _ _ _ _ c.requires.seat)
