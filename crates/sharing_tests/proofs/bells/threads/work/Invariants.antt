use Rattle.std.proofs.Common.{◌≡◌, ◌<◌}
use Rattle.sharing_tests.proofs.bells.threads.work.Given as goal

abbrev pub invariant-rounds : goal.invariant-rounds
invariant-rounds g l = record {
  bell : l.listener.bell ≡ l.bell.word;
  place : l.worker < 2;
}
