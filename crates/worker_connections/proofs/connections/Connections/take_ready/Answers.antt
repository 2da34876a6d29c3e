-- Nothing was closed, and the run is as it was.
use Rattle.std.proofs.Common.{refl}
use Rattle.worker_connections.proofs.Chaining.{stays_at}
use Rattle.worker_connections.proofs.connections.Connections.take_ready.Goals as goal

pub invariant_of-self : goal.invariant_of-self
invariant_of-self g c = (
  c.self.invariant.0,
  c.self.invariant.1,
  c.self.invariant.2,
  c.self.invariant.3,
  stays_at g.B.Broker.group (record { saw_ledger = g.B.Seen.LedgerWitness.saw_ledger; saw_main = g.B.Seen.Witness.saw_main; saw_returns = g.B.Seen.Witness.saw_returns }) g.T.Transport.counts g.T.Transport.given g.T.Transport.accepted c.self.inside.first c.self.inside.sweeps.latest c.self.inside.sweeps.latest c.self.inside.supply c.self.inside.table c.self.inside.receiver.received c.self.inside.served
      (g.Q.Poller.poller_calls c.self.inside.poller) (g.Q.Poller.poller_calls c.take_ready.new.self) c.take_ready.ensures refl c.self.invariant.4,
)
