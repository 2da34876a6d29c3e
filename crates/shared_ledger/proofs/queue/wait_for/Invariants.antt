-- The pass knows what it knew.
use Rattle.std.proofs.Common.{◌≡◌}
use Rattle.crossbeam_queue.specs.Passes.{view, IsPassOf}
use Rattle.shared_ledger.proofs.queue.wait_for.Given as goal

abbrev pub invariant-looks : goal.invariant-looks
invariant-looks g l = record {
  queue : IsPassOf l.queue l.pass;
  same : view l.pass ≡ view l.initial.pass;
}
