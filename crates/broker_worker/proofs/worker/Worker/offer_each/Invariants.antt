-- The groups so far were offered something.
use Rattle.std.proofs.Common.{ℕ, ◌<◌}
use Rattle.worker_connections.specs.Serving.{Rounds}
use Rattle.broker_worker.specs.Offering.{Amid, Offers}
use Rattle.broker_worker.proofs.worker.Worker.offer_each.Given as goal

abbrev pub invariant-slots : goal.invariant-slots
invariant-slots g l = record {
  goes : Rounds l.fn.self.connections l.self.connections;
  offered : (slot : ℕ) → slot < l.slot → Amid
      (Offers g.B.Broker.group (record { saw_ledger = g.B.Seen.LedgerWitness.saw_ledger; saw_main = g.B.Seen.Witness.saw_main; saw_returns = g.B.Seen.Witness.saw_returns }) g.T.Transport.counts g.T.Transport.given g.T.Transport.accepted slot) l.fn.self.connections l.self.connections;
}
