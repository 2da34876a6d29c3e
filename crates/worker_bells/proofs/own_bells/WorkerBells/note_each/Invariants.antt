-- What contracts see is as it was.
use Rattle.std.proofs.Common.{◌≡◌}
use Rattle.worker_bells.proofs.own_bells.WorkerBells.note_each.Given as goal

abbrev pub invariant-slots : goal.invariant-slots
invariant-slots g l = l.self ≡ l.fn.self
