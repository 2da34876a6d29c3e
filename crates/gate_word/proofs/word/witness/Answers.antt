use Rattle.std.proofs.Common.{arith}
use Rattle.gate_word.proofs.Moves.{witnesses}
use Rattle.gate_word.proofs.word.witness.Goals as goal

pub split_seat-requires : goal.split_seat-requires
split_seat-requires c = (c.requires.word.1, omega arith, witnesses _ _ _ c.requires.seat)
