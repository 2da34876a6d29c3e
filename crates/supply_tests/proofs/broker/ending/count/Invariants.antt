-- So many are left.
use Rattle.std.proofs.Common.{vec_len}
use Rattle.supply_tests.proofs.broker.ending.count.Given as goal

abbrev pub invariant-answers : goal.invariant-answers
invariant-answers l = Unit {0}

abbrev pub decreases-answers : goal.decreases-answers
decreases-answers l = vec_len l.answers
