use Rattle.std.proofs.Common.{arith}
use Rattle.call_history.proofs.Moves.{shares}
use Rattle.call_history.proofs.word.share.Goals as goal

pub split_seat-requires : goal.split_seat-requires
split_seat-requires g c = (c.requires.word.1, omega arith, shares _ _ c.requires.parts)
