-- So many are left.
use Rattle.std.proofs.Common.{vec_len}
use Rattle.supply_tests.proofs.broker.ending.let_go_of_all.Given as goal

abbrev pub invariant-envelopes : goal.invariant-envelopes
invariant-envelopes l = Unit {0}

abbrev pub decreases-envelopes : goal.decreases-envelopes
decreases-envelopes l = vec_len l.envelopes
