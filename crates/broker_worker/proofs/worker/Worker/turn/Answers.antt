-- What was retired and offered was so in a sweep of this turn.
use Rattle.std.proofs.Common.{subst, sym}
use Rattle.worker_connections.specs.Serving.{ConnectionsState}
use Rattle.broker_worker.specs.Offering.{OffersInSweep}
use Rattle.broker_worker.specs.Retiring.{RetiresInSweep}
use Rattle.broker_worker.proofs.worker.Worker.turn.Goals as goal

pub returns-clause-offered : goal.returns-clause-offered
returns-clause-offered g c =
    subst (λ (new : ConnectionsState g.row.T.Denot). OffersInSweep g.B.Broker.group (record { saw_ledger = g.B.Seen.LedgerWitness.saw_ledger; saw_main = g.B.Seen.Witness.saw_main; saw_returns = g.B.Seen.Witness.saw_returns }) g.T.Transport.counts g.T.Transport.given g.T.Transport.accepted c.args.self.now.connections new)
    (sym c.next_wait.ensures.same) c.serve.ensures.offered

pub returns-clause-retired : goal.returns-clause-retired
returns-clause-retired g c =
    subst (λ (new : ConnectionsState g.row.T.Denot). RetiresInSweep g.B.Broker.group (record { saw_ledger = g.B.Seen.LedgerWitness.saw_ledger; saw_main = g.B.Seen.Witness.saw_main; saw_returns = g.B.Seen.Witness.saw_returns }) c.args.self.now.connections new)
    (sym c.next_wait.ensures.same) c.serve.ensures.retired
