-- One more was received, and is open or has ended; one that is open went on at this moment.
use Rattle.std.proofs.Common.{◌≡◌, ◌+◌, length, ap, arith}
use Rattle.std.proofs.Math.ListN.{length-append}
use Rattle.conn_channel.specs.Ends.{ReceiverState}
use Rattle.worker_connections.specs.Arrivals.{ArrivedState}
use Rattle.worker_connections.proofs.Accounting.{came_one}
use Rattle.worker_connections.proofs.Chaining.{comes}
use Rattle.worker_connections.proofs.Swept.{came_one as goes_on}
use Rattle.worker_connections.proofs.Wished.{wished_came}
use Rattle.worker_connections.proofs.connections.Connections.receive.Goals as goal

pub invariant_of-self : goal.invariant_of-self
invariant_of-self g c =
    let is = ap (λ (r : ReceiverState (ArrivedState g.row.T.Denot)). r.received) c.in-Connection.ensures in
    let more : length c.receive.new.self.received ≡ length c.self.inside.receiver.received + 1 =
    omega (arith, ap length is, length-append {A = ArrivedState g.row.T.Denot}) in
    let wished = wished_came g.T.Transport.counts g.T.Transport.given g.T.Transport.accepted _ c.self.inside.table c.take_in.new.table c.self.inside.served c.take_in.new.served
    (g.Q.Poller.poller_calls c.self.inside.poller) (g.Q.Poller.poller_calls c.take_in.new.poller) c.self.inside.members c.self.inside.first c.self.inside.sweeps.latest c.self.invariant.2 c.self.invariant.3 c.take_in.ensures.taken in (
      came_one g.T.Transport.counts g.T.Transport.given g.T.Transport.accepted c.self.inside.first c.self.inside.sweeps.latest _ _ _ c.self.inside.table c.take_in.new.table
          c.self.inside.served c.take_in.new.served (g.Q.Poller.poller_calls c.self.inside.poller) (g.Q.Poller.poller_calls c.take_in.new.poller) more c.self.invariant.0 c.take_in.ensures.taken,
      goes_on g.T.Transport.counts g.T.Transport.given g.T.Transport.accepted _ c.self.inside.table c.take_in.new.table c.self.inside.served c.take_in.new.served
          (g.Q.Poller.poller_calls c.self.inside.poller) (g.Q.Poller.poller_calls c.take_in.new.poller) c.self.inside.first c.self.inside.sweeps c.self.invariant.1 c.take_in.ensures.taken,
      wished.0,
      wished.1,
      comes g.B.Broker.group (record { saw_ledger = g.B.Seen.LedgerWitness.saw_ledger; saw_main = g.B.Seen.Witness.saw_main; saw_returns = g.B.Seen.Witness.saw_returns }) g.T.Transport.counts g.T.Transport.given g.T.Transport.accepted c.self.inside.first c.self.inside.sweeps.latest _ c.self.inside.supply c.self.inside.table c.take_in.new.table
          c.self.inside.receiver.received c.receive.new.self.received c.self.inside.served c.take_in.new.served
          (g.Q.Poller.poller_calls c.self.inside.poller) (g.Q.Poller.poller_calls c.take_in.new.poller) is c.self.invariant.4 c.take_in.ensures.taken,
    )
