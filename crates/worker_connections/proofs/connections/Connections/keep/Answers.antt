-- The run goes on by that.
use Rattle.worker_connections.proofs.Chaining.{told_on}
use Rattle.worker_connections.proofs.connections.Connections.keep.Goals as goal

pub invariant_of-self : goal.invariant_of-self
invariant_of-self g c = (
  c.self.invariant.0,
  c.self.invariant.1,
  c.self.invariant.2,
  c.self.invariant.3,
  told_on g.B.Broker.group (record { saw_ledger = g.B.Seen.LedgerWitness.saw_ledger; saw_main = g.B.Seen.Witness.saw_main; saw_returns = g.B.Seen.Witness.saw_returns }) g.T.Transport.counts g.T.Transport.given g.T.Transport.accepted c.self.inside.first c.self.inside.sweeps.latest c.args.most.now c.keep_messages.result c.self.inside.supply c.keep_messages.new.self
      c.self.inside.table c.self.inside.receiver.received c.self.inside.served (g.Q.Poller.poller_calls c.self.inside.poller) c.keep_messages.ensures.kept c.keep_messages.ensures.same
      c.self.invariant.4,
)
