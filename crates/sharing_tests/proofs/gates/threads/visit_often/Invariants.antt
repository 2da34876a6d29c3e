use Rattle.std.proofs.Common.{◌≡◌}
use Rattle.sharing_tests.proofs.gates.threads.visit_often.Given as goal

abbrev pub invariant-visits : goal.invariant-visits
invariant-visits l = l.seat.gate ≡ l.gate
