-- The clients in the cells so far were asked.
use Rattle.std.proofs.Common.{ℕ, ◌<◌}
use Rattle.worker_connections.specs.Serving.{Rounds}
use Rattle.broker_worker.specs.Offering.{Amid, IsAsked}
use Rattle.broker_worker.proofs.worker.Worker.offer_to_any.Given as goal

abbrev pub invariant-cells : goal.invariant-cells
invariant-cells g l = record {
  goes : Rounds l.fn.self.connections l.self.connections;
  asked : (cell : ℕ) → cell < l.cell → Amid
      (IsAsked g.B.Broker.group (record { saw_ledger = g.B.Seen.LedgerWitness.saw_ledger; saw_main = g.B.Seen.Witness.saw_main; saw_returns = g.B.Seen.Witness.saw_returns }) g.T.Transport.counts g.T.Transport.given g.T.Transport.accepted l.fn.slot cell) l.fn.self.connections l.self.connections;
}
