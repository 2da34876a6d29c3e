use Rattle.std.proofs.Common.{◌≡◌}
use Rattle.sharing_tests.proofs.gates.threads.close.Given as goal

abbrev pub invariant-looks : goal.invariant-looks
invariant-looks g l = l.seat.gate ≡ l.gate
