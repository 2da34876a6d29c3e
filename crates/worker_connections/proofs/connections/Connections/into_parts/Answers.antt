-- What the run has come to.
use Rattle.std.proofs.Common.{length, subst, ap, ◌∙◌}
use Rattle.shared_supply.specs.Workers.{Worker}
use Rattle.worker_connections.specs.Chains.{HasRunTo}
use Rattle.worker_connections.specs.Serving.{AreCounted, ConnectionsState, live, run_of}
use Rattle.worker_connections.proofs.Accounting.{settled}
use Rattle.worker_connections.proofs.connections.Connections.into_parts.Goals as goal

pub returns-clause-counted : goal.returns-clause-counted
returns-clause-counted g c none =
    let free = ap (λ (state : ConnectionsState g.row.T.Denot). live state) c.self.view_is ∙ none in
    let received = ap (λ (state : ConnectionsState g.row.T.Denot). length state.receiver.received) c.self.view_is in
    subst (λ n. AreCounted n c.self.inside.served) received (settled _ c.self.inside.table c.self.inside.served c.self.invariant.0 free)

pub returns-clause-ran : goal.returns-clause-ran
returns-clause-ran g c =
    let Ran : ConnectionsState g.row.T.Denot → Type 0 = λ state.
    HasRunTo g.B.Broker.group (record { saw_ledger = g.B.Seen.LedgerWitness.saw_ledger; saw_main = g.B.Seen.Witness.saw_main; saw_returns = g.B.Seen.Witness.saw_returns }) g.T.Transport.counts g.T.Transport.given g.T.Transport.accepted (run_of state) in
    subst Ran c.self.view_is c.self.invariant.4

pub returns-clause-ports : goal.returns-clause-ports
returns-clause-ports g c none =
    let free = ap (λ (state : ConnectionsState g.row.T.Denot). live state) c.self.view_is ∙ none in
    let supply = ap (λ (state : ConnectionsState g.row.T.Denot). state.supply) c.self.view_is in
    c.into_parts-key.ensures.ports ∙ ap (λ (w : Worker). w.ports) (c.abandon.ensures free ∙ supply)

pub returns-clause-known : goal.returns-clause-known
returns-clause-known g c none =
    let free = ap (λ (state : ConnectionsState g.row.T.Denot). live state) c.self.view_is ∙ none in
    let supply = ap (λ (state : ConnectionsState g.row.T.Denot). state.supply) c.self.view_is in
    c.into_parts-key.ensures.known ∙ ap (λ (w : Worker). w.known) (c.abandon.ensures free ∙ supply)

pub returns-clause-desk : goal.returns-clause-desk
returns-clause-desk g c none =
    let free = ap (λ (state : ConnectionsState g.row.T.Denot). live state) c.self.view_is ∙ none in
    let supply = ap (λ (state : ConnectionsState g.row.T.Denot). state.supply) c.self.view_is in
    c.into_parts-key.ensures.desk ∙ ap (λ (w : Worker). w.desk) (c.abandon.ensures free ∙ supply)
