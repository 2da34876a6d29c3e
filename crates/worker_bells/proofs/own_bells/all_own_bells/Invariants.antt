-- As many as there were turns; and whose ringers reach each listener.
use Rattle.std.proofs.Common.{◌≡◌, length}
use Rattle.worker_bells.specs.Joining.{AreJoined}
use Rattle.worker_bells.proofs.Joining.{NobodyListens}
use Rattle.worker_bells.proofs.own_bells.all_own_bells.Given as goal

abbrev pub invariant-all_own_bells : goal.invariant-all_own_bells
invariant-all_own_bells g l = record {
  count : length l.all.items ≡ l.counter;
  workers : l.workers ≡ l.fn.workers;
  nobody : NobodyListens l.all.items;
}

abbrev pub invariant-slots : goal.invariant-slots
invariant-slots g l = record {
  count : length l.all.items ≡ l.fn.workers;
  joined : AreJoined l.all.items;
}
