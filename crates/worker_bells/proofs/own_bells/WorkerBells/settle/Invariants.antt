-- It is idle at the bells of the groups so far.
use Rattle.std.proofs.Common.{◌≡◌, ◌<◌, ℕ, true}
use Rattle.worker_bells.specs.Ringing.{HasSettledAt}
use Rattle.worker_bells.specs.Wishing.{IsWished}
use Rattle.worker_bells.proofs.own_bells.WorkerBells.settle.Given as goal

abbrev pub invariant-slots : goal.invariant-slots
invariant-slots g l = l.may_wait ≡ true → (slot : ℕ) → slot < l.slot → IsWished slot l.fn.members → HasSettledAt l.self.listenings slot
