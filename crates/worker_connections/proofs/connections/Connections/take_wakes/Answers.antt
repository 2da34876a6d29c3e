-- The run goes on by that.
use Rattle.worker_connections.proofs.Chaining.{told_all_on}
use Rattle.worker_connections.proofs.connections.Connections.take_wakes.Goals as goal

pub invariant_of-self : goal.invariant_of-self
invariant_of-self g c = (
  c.self.invariant.0,
  c.self.invariant.1,
  c.self.invariant.2,
  c.self.invariant.3,
  told_all_on g.B.Broker.group (record { saw_ledger = g.B.Seen.LedgerWitness.saw_ledger; saw_main = g.B.Seen.Witness.saw_main; saw_returns = g.B.Seen.Witness.saw_returns }) g.T.Transport.counts g.T.Transport.given g.T.Transport.accepted c.self.inside.first c.self.inside.sweeps.latest c.self.inside.supply c.take_wakes.new.self c.self.inside.table
      c.self.inside.receiver.received c.self.inside.served (g.Q.Poller.poller_calls c.self.inside.poller) c.take_wakes.ensures.cleared c.self.invariant.4,
)
