use Rattle.std.proofs.Common.{arith}
use Rattle.gate_word.proofs.Moves.{leaves}
use Rattle.gate_word.proofs.word.leave.Goals as goal

pub fetch_sub-requires : goal.fetch_sub-requires
fetch_sub-requires c = (c.requires.word.1, omega arith, leaves _ _ _ _ c.requires.seat)
