-- What is known of the routes is of the same table, and the right to call the desk is the same.
use Rattle.std.proofs.Common.{ℕ, ap}
use Rattle.shared_routes.specs.Cells.{RoutesId}
use Rattle.worker_connections.proofs.Knowing.{same_ties}
use Rattle.worker_connections.proofs.connections.make_round.Goals as goal

pub returns-clause-routes : goal.returns-clause-routes
returns-clause-routes g c =
    ap (λ (ties : RoutesId × ℕ). ties.0)
    (same_ties g.B.Broker.group (record { saw_ledger = g.B.Seen.LedgerWitness.saw_ledger; saw_main = g.B.Seen.Witness.saw_main; saw_returns = g.B.Seen.Witness.saw_returns }) g.T.Transport.counts g.T.Transport.given g.T.Transport.accepted
    c.args.now c.args.cell _ _ _ _ _ c.round.ensures.turns)

pub returns-clause-parts : goal.returns-clause-parts
returns-clause-parts g c =
    ap (λ (ties : RoutesId × ℕ). ties.1)
    (same_ties g.B.Broker.group (record { saw_ledger = g.B.Seen.LedgerWitness.saw_ledger; saw_main = g.B.Seen.Witness.saw_main; saw_returns = g.B.Seen.Witness.saw_returns }) g.T.Transport.counts g.T.Transport.given g.T.Transport.accepted
    c.args.now c.args.cell _ _ _ _ _ c.round.ensures.turns)
