-- The run goes on by that.
use Rattle.std.proofs.Common.{◌≡◌, refl, subst}
use Rattle.worker_connections.specs.Retiring.{RetiresDue}
use Rattle.worker_connections.specs.Serving.{ConnectionsState}
use Rattle.worker_connections.proofs.Chaining.{retires_on}
use Rattle.worker_connections.proofs.connections.Connections.retire_due.Goals as goal

pub invariant_of-self : goal.invariant_of-self
invariant_of-self g c = (
  c.self.invariant.0,
  c.self.invariant.1,
  c.self.invariant.2,
  c.self.invariant.3,
  retires_on g.B.Broker.group (record { saw_ledger = g.B.Seen.LedgerWitness.saw_ledger; saw_main = g.B.Seen.Witness.saw_main; saw_returns = g.B.Seen.Witness.saw_returns }) g.T.Transport.counts g.T.Transport.given g.T.Transport.accepted c.self.inside.first c.self.inside.sweeps.latest c.self.inside.supply c.retire_in_visit.new.supply
      c.self.inside.table c.self.inside.receiver.received c.self.inside.served (g.Q.Poller.poller_calls c.self.inside.poller) c.retire_in_visit.ensures.retired c.self.invariant.4,
)

pub returns-clause-retired : goal.returns-clause-retired
returns-clause-retired g c =
    let Retired : ConnectionsState g.row.T.Denot → Type 0 = λ old.
    RetiresDue g.B.Broker.group (record { saw_ledger = g.B.Seen.LedgerWitness.saw_ledger; saw_main = g.B.Seen.Witness.saw_main; saw_returns = g.B.Seen.Witness.saw_returns }) old.supply old.sweeps.latest c.retire_in_visit.new.supply
    × (record { first = c.self.inside.first; receiver = c.self.inside.receiver; cells = c.self.inside.table; served = c.self.inside.served; sweeps = c.self.inside.sweeps; supply = c.retire_in_visit.new.supply; poller_calls = g.Q.Poller.poller_calls c.self.inside.poller } ≡ record old { supply = c.retire_in_visit.new.supply }) in
    subst Retired c.self.view_is (c.retire_in_visit.ensures.retired, refl)
