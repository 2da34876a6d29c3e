-- So many as its share are kept.
use Rattle.std.proofs.Common.{subst}
use Rattle.shared_supply.specs.Waking.{KeepsAtMost}
use Rattle.worker_bells.specs.Ringing.{AreRung}
use Rattle.worker_connections.specs.Serving.{wakes_of}
use Rattle.broker_worker.specs.Resting.{WorkerState}
use Rattle.broker_worker.proofs.worker.Worker.tell_beyond.Goals as goal

pub returns-clause-rung : goal.returns-clause-rung
returns-clause-rung g c =
    let Rung : WorkerState g.row.T.Denot → Type 0 = λ old. KeepsAtMost c.shares.result c.keep-others.result (wakes_of old.connections) (wakes_of c.keep-others.new.self)
    × AreRung 0 c.keep-others.result old.bells.ringings c.ring_each.new.self.ringings in
    let rung = subst Rung c.self.view_is (c.keep-others.ensures.kept, c.ring_each.ensures) in
    (c.shares.result, c.keep-others.result, rung.0, rung.1)
