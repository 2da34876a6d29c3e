-- Others were told, and rounds were made.
use Rattle.broker_worker.proofs.Offered.{more, nothing, offers_each, telling}
use Rattle.worker_connections.specs.Serving.{wakes_of}
use Rattle.shared_supply.specs.Waking.{no_wakes}
use Rattle.broker_worker.proofs.worker.Worker.share_out.Goals as goal

pub returns-clause-goes : goal.returns-clause-goes
returns-clause-goes g c =
    let planned = nothing c.args.self.now.connections c.plan.new.self.connections c.plan.ensures.same in
    let told = telling c.plan.new.self.connections c.tell_beyond.new.self.connections (wakes_of c.tell_beyond.new.self.connections) c.tell_beyond.ensures.same in
    let rest = telling c.offer_if.new.self.connections c.tell.new.self.connections no_wakes c.tell.ensures.told in
    let last = telling c.reply.new.self.connections c.tell-2.new.self.connections no_wakes c.tell-2.ensures.told in
    more _ _ _ planned (more _ _ _ told (more _ _ _ c.hand_out.ensures (more _ _ _ c.offer_if.ensures.goes (more _ _ _ rest (more _ _ _ c.reply.ensures last)))))

pub returns-clause-offered : goal.returns-clause-offered
returns-clause-offered g c = λ sweeps.
    let planned = nothing c.args.self.now.connections c.plan.new.self.connections c.plan.ensures.same in
    let told = telling c.plan.new.self.connections c.tell_beyond.new.self.connections (wakes_of c.tell_beyond.new.self.connections) c.tell_beyond.ensures.same in
    let rest = telling c.offer_if.new.self.connections c.tell.new.self.connections no_wakes c.tell.ensures.told in
    let last = telling c.reply.new.self.connections c.tell-2.new.self.connections no_wakes c.tell-2.ensures.told in
    offers_each g.B.Broker.group (record { saw_ledger = g.B.Seen.LedgerWitness.saw_ledger; saw_main = g.B.Seen.Witness.saw_main; saw_returns = g.B.Seen.Witness.saw_returns }) g.T.Transport.counts g.T.Transport.given g.T.Transport.accepted _ _ _ _ (more _ _ _ planned (more _ _ _ told c.hand_out.ensures)) (c.offer_if.ensures.offered sweeps) (more _ _ _ rest (more _ _ _ c.reply.ensures last))
