-- So many are left.
use Rattle.std.proofs.Common.{vec_len}
use Rattle.serving_tests.proofs.in_memory.broker.count_reports.Given as goal

abbrev pub invariant-answers : goal.invariant-answers
invariant-answers l = Unit {0}

abbrev pub decreases-answers : goal.decreases-answers
decreases-answers l = vec_len l.answers

abbrev pub invariant-strangers : goal.invariant-strangers
invariant-strangers l = Unit {0}

abbrev pub decreases-strangers : goal.decreases-strangers
decreases-strangers l = vec_len l.strangers
