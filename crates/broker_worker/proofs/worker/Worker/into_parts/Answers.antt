-- What the run of its connections has come to.
use Rattle.std.proofs.Common.{◌≡◌, length, subst}
use Rattle.worker_connections.specs.Chains.{HasRunTo}
use Rattle.worker_connections.specs.Serving.{AreCounted, live, run_of}
use Rattle.broker_worker.specs.Resting.{WorkerState}
use Rattle.broker_worker.proofs.worker.Worker.into_parts.Goals as goal

pub returns-clause-counted : goal.returns-clause-counted
returns-clause-counted g c =
    let Counted : WorkerState g.row.T.Denot → Type 0 = λ state.
    live state.connections ≡ 0 → AreCounted (length state.connections.receiver.received) c.into_parts.result.served in
    subst Counted c.self.view_is c.into_parts.ensures.counted

pub returns-clause-ran : goal.returns-clause-ran
returns-clause-ran g c =
    let Ran : WorkerState g.row.T.Denot → Type 0 = λ state.
    HasRunTo g.B.Broker.group (record { saw_ledger = g.B.Seen.LedgerWitness.saw_ledger; saw_main = g.B.Seen.Witness.saw_main; saw_returns = g.B.Seen.Witness.saw_returns }) g.T.Transport.counts g.T.Transport.given g.T.Transport.accepted (run_of state.connections) in
    subst Ran c.self.view_is c.into_parts.ensures.ran

pub returns-clause-ports : goal.returns-clause-ports
returns-clause-ports g c =
    let Told : WorkerState g.row.T.Denot → Type 0 = λ state. live state.connections ≡ 0 → c.into_parts.result.handle.ports ≡ state.connections.supply.ports in
    subst Told c.self.view_is c.into_parts.ensures.ports

pub returns-clause-desk : goal.returns-clause-desk
returns-clause-desk g c =
    let Told : WorkerState g.row.T.Denot → Type 0 = λ state. live state.connections ≡ 0 → c.into_parts.result.handle.desk ≡ state.connections.supply.desk in
    subst Told c.self.view_is c.into_parts.ensures.desk

pub returns-clause-poller_calls : goal.returns-clause-poller_calls
returns-clause-poller_calls g c =
    let Told : WorkerState g.row.T.Denot → Type 0 = λ state. g.Q.Poller.poller_calls c.into_parts.result.poller ≡ state.connections.poller_calls in
    subst Told c.self.view_is c.into_parts.ensures.poller_calls
