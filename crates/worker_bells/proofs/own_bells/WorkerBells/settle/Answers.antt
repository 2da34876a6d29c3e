-- One bell more.
use Rattle.worker_bells.proofs.Ringing.{settles_more}
use Rattle.worker_bells.proofs.own_bells.WorkerBells.settle.Goals as goal

pub slots-preserved : goal.slots-preserved
slots-preserved g c =
    settles_more c.slots.may_wait c.settle_at-settled.result c.slots.slot c.args.members.now c.slots.self.listenings c.settle_at-settled.new.self.listenings c.slots-test.true
    c.slots.invariant c.settle_at-settled.ensures.settled c.settle_at-settled.ensures.others
