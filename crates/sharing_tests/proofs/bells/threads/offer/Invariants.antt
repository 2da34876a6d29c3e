use Rattle.std.proofs.Common.{◌≡◌}
use Rattle.sharing_tests.proofs.bells.threads.offer.Given as goal

abbrev pub invariant-offers : goal.invariant-offers
invariant-offers l = record {
  bell : l.ringer.bell ≡ l.bell.word;
  two : l.bell.workers ≡ 2;
}
