-- It owed nothing, and waited.
use Rattle.std.proofs.Common.{ap, subst, sym}
use Rattle.shared_supply.specs.Workers.{Worker}
use Rattle.worker_connections.specs.Chains.{HasRunTo, OwesNothing}
use Rattle.worker_connections.specs.Serving.{ConnectionsState, run_of}
use Rattle.worker_connections.specs.declared.sweeps.Sweeps.{Sweeps}
use Rattle.worker_connections.proofs.Chaining.{waits_on}
use Rattle.worker_connections.proofs.Swept.{looks}
use Rattle.worker_connections.proofs.connections.Connections.wait.Goals as goal

pub invariant_of-self : goal.invariant_of-self
invariant_of-self g c = (
  c.self.invariant.0,
  looks c.self.inside.table c.self.inside.sweeps c.look.new.self c.wait-woken.result.now c.self.invariant.1 c.look.ensures,
  c.self.invariant.2,
  c.self.invariant.3,
  subst (λ (supply : Worker). HasRunTo g.B.Broker.group (record { saw_ledger = g.B.Seen.LedgerWitness.saw_ledger; saw_main = g.B.Seen.Witness.saw_main; saw_returns = g.B.Seen.Witness.saw_returns }) g.T.Transport.counts g.T.Transport.given g.T.Transport.accepted
      (record { first = c.self.inside.first; supply = supply; cells = c.self.inside.table; received = c.self.inside.receiver.received; served = c.self.inside.served; poller_calls = g.Q.Poller.poller_calls c.wait-woken.new.self; latest = c.look.new.self.latest }))
      (sym c.drain_if.ensures)
      (waits_on g.B.Broker.group (record { saw_ledger = g.B.Seen.LedgerWitness.saw_ledger; saw_main = g.B.Seen.Witness.saw_main; saw_returns = g.B.Seen.Witness.saw_returns }) g.T.Transport.counts g.T.Transport.given g.T.Transport.accepted c.self.inside.first c.self.inside.sweeps.latest c.args.at_most c.wait-woken.result.now c.look.new.self.latest c.wait-woken.result.drains c.self.inside.supply c.self.inside.table
      c.self.inside.receiver.received c.self.inside.served (g.Q.Poller.poller_calls c.self.inside.poller) (g.Q.Poller.poller_calls c.wait-woken.new.self)
      (subst (λ (state : ConnectionsState g.row.T.Denot). OwesNothing (run_of state)) (sym c.self.view_is) c.requires.owes) c.requires.in_time c.wait-woken.ensures (ap (λ (s : Sweeps). s.latest) c.look.ensures) c.self.invariant.4),
)
