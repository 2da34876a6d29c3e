use Rattle.bell.proofs.Moves.{starts}
use Rattle.bell.proofs.bell.Bell.open.Goals as goal

pub of_words-requires : goal.of_words-requires
of_words-requires c = starts
