-- The run of its workers.
use Rattle.std.proofs.Common.{List, map, sym, subst, ◌∙◌}
use Rattle.std.proofs.lemmas.List.{length-map}
use Rattle.group_queue.specs.Ports.{PortState}
use Rattle.worker_connections.specs.declared.handle.WorkerHandle.{WorkerHandle}
use Rattle.worker_pool.specs.Accepting.{arrivals}
use Rattle.worker_pool.specs.Pools.{AreServed}
use Rattle.threaded_broker.specs.Callers.{DeskCallerState, HasTakenIn}
use Rattle.threaded_broker.proofs.Runs.{within}
use Rattle.threaded_broker.proofs.serving.serve_until_closed.Goals as goal

pub returns-in-Ok-clause-run : goal.returns-in-Ok-clause-run
returns-in-Ok-clause-run g c =
    let ran = c.in-Ok.ensures.served in
    let handles = c.in-Ok.field-0.pooled.handles.items in
    let callers = map (λ (handle : WorkerHandle g.row.B.Denot g.row.N.Denot g.row.B-Seen.Denot). handle.desk) handles in
    let Served : List (List PortState) → Type 0 = λ ports.
    AreServed g.B.Broker.group (record { saw_ledger = g.B.Seen.LedgerWitness.saw_ledger; saw_main = g.B.Seen.Witness.saw_main; saw_returns = g.B.Seen.Witness.saw_returns }) g.W.Transport.Transport.counts g.W.Transport.Transport.given g.W.Transport.Transport.accepted (arrivals c.args.setup.limits ran.0) ran.1 ports callers c.in-Ok.field-0.pooled.served.items
    (map g.W.Poller.Poller.poller_calls c.in-Ok.field-0.pooled.pollers.items) in (
      ran.0,
      ran.3,
      ran.4,
      within g.B.Broker.group (record { saw_ledger = g.B.Seen.LedgerWitness.saw_ledger; saw_main = g.B.Seen.Witness.saw_main; saw_returns = g.B.Seen.Witness.saw_returns }) g.W.Transport.Transport.counts g.W.Transport.Transport.given g.W.Transport.Transport.accepted c.args.setup.limits c.args.broker.workers ran.0 c.args.broker.caller c.take_in-ports.new.caller ran.1 c.in-Ok.field-0.shares.items c.take_in-ports.result.items callers c.in-Ok.field-0.pooled.served.items
          (map g.W.Poller.Poller.poller_calls c.in-Ok.field-0.pooled.pollers.items)
          ran.2 (subst Served (sym c.take_in-ports.ensures.ports) ran.5)
          c.into_parts-shared_broker.ensures.opened
          (subst (λ (before : DeskCallerState). HasTakenIn before callers c.take_in-ports.new.caller) c.into_parts-shared_broker.ensures.caller c.take_in-ports.ensures.taken_in)
          (length-map handles (λ (handle : WorkerHandle g.row.B.Denot g.row.N.Denot g.row.B-Seen.Denot). handle.desk) ∙ c.in-Ok.ensures.handles ∙ c.into_parts-shared_broker.ensures.handles)
          c.into_parts-shared_broker.ensures.right,
    )
