-- Where it settled at all bells, it is at rest.
use Rattle.std.proofs.Common.{◌≡◌, true, sym, subst, inr, arith}
use Rattle.shared_supply.specs.Waking.{no_wakes}
use Rattle.worker_connections.specs.Serving.{wakes_of}
use Rattle.broker_worker.specs.Resting.{WorkerState}
use Rattle.broker_worker.proofs.worker.Worker.next_wait.Goals as goal

pub returns-clause-rests : goal.returns-clause-rests
returns-clause-rests g c =
    let settled : c.settle-settled.result ≡ true = grind arith in
    let Told : WorkerState g.row.T.Denot → Type 0 = λ worker. wakes_of worker.connections ≡ no_wakes in
    inr (record {
      told = subst Told (sym c.self.view_is) c.requires.told;
      idle = λ slot few taker. c.settle-settled.ensures settled slot few (c.members.ensures slot few taker);
      in_time = c.left-left.ensures.in_time;
    })
