-- It rang for the groups so far.
use Rattle.std.proofs.Common.{take}
use Rattle.worker_bells.specs.Ringing.{AreRung}
use Rattle.worker_bells.proofs.own_bells.WorkerBells.ring_each.Given as goal

abbrev pub invariant-slots : goal.invariant-slots
invariant-slots g l = AreRung 0 (take l.slot l.fn.wanted) l.fn.self.ringings l.self.ringings
