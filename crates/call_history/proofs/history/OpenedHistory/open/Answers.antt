use Rattle.call_history.proofs.Moves.{starts}
use Rattle.call_history.proofs.history.OpenedHistory.open.Goals as goal

pub of_words-requires : goal.of_words-requires
of_words-requires g c = starts
