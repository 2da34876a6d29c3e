use Rattle.std.proofs.Common.{arith}
use Rattle.gate_word.proofs.Moves.{takes_off}
use Rattle.gate_word.proofs.word.take_off.Goals as goal

pub fetch_sub-requires : goal.fetch_sub-requires
fetch_sub-requires c = (c.requires.word.1, omega arith, takes_off _ _ _ _ c.requires.seat)
