use Rattle.std.proofs.Common.{arith}
use Rattle.call_history.proofs.Moves.{shows}
use Rattle.call_history.proofs.word.show.Goals as goal

pub join_seat-requires : goal.join_seat-requires
join_seat-requires g c = (c.requires.word.1, c.requires.other.0, c.requires.other.1, omega arith, shows _ _ _ _)
