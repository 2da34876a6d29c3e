use Rattle.std.proofs.Common.{arith}
use Rattle.gate_word.proofs.Moves.{cuts}
use Rattle.gate_word.proofs.word.cut.Goals as goal

pub split_seat-requires : goal.split_seat-requires
split_seat-requires c = (c.requires.word.1, omega arith, cuts _ _ _ c.requires.seats.0 c.requires.seats.1)
