use Rattle.std.proofs.Common.{arith}
use Rattle.gate_word.proofs.Moves.{shuts}
use Rattle.gate_word.proofs.word.shut.Goals as goal

pub fetch_or-requires : goal.fetch_or-requires
fetch_or-requires c = (c.requires.word.1, omega arith, shuts _ _ _ _ c.requires.seat)
