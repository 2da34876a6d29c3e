-- It rang at the bells so far.
use Rattle.std.proofs.Common.{◌≡◌}
use Rattle.worker_bells.proofs.Ringing.{IsRungBelow}
use Rattle.worker_bells.proofs.own_bells.WorkerBells.ring.Given as goal

abbrev pub invariant-ringings : goal.invariant-ringings
invariant-ringings g l = record {
  rung : IsRungBelow l.ringing l.fn.slot l.fn.wanted l.left l.fn.self.ringings l.self.ringings;
  listenings : l.self.listenings ≡ l.fn.self.listenings;
}
