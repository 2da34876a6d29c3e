-- The shares that were bound first are among those that are copied at the end, which each worker knew, slot by slot, as far as it knew any.
use Rattle.std.proofs.Common.{List, All, map, ap, subst, sym}
use Rattle.mqtt_topic.specs.Names.{Share}
use Rattle.shared_routes.specs.Known.{KnownState}
use Rattle.worker_connections.specs.declared.handle.WorkerHandle.{WorkerHandle}
use Rattle.worker_pool.specs.Accepting.{arrivals}
use Rattle.worker_pool.proofs.Gathered.{more_known}
use Rattle.threaded_broker.specs.Shares.{IsBoundIn}
use Rattle.threaded_broker.proofs.Bound.{at_the_end}
use Rattle.threaded_broker.proofs.serving.run_bound.Goals as goal

pub returns-in-Ok-copy_all-clause-shares : goal.returns-in-Ok-copy_all-clause-shares
returns-in-Ok-copy_all-clause-shares g c =
    let same = ap (λ (known : KnownState). known.shares) c.run.ensures.routes in
    let bound = subst (λ (all : List Share). All (IsBoundIn all) c.args.shares.now) (sym same) c.in-Ok-declare_all.ensures.bound in
    at_the_end c.run.new.routes c.refresh.new.self c.args.shares.now c.in-Ok-copy_all.shares.items bound c.refresh.ensures.grows c.in-Ok-copy_all.ensures

pub returns-in-Ok-copy_all-clause-served : goal.returns-in-Ok-copy_all-clause-served
returns-in-Ok-copy_all-clause-served g c =
    let ran = c.in-Ok-run.ensures.served in
    let pooled = c.in-Ok-run.pooled in (
      ran.0,
      c.refresh.new.self.shares,
      c.in-Ok-copy_all.ensures,
      ran.1,
      ran.2,
      more_known g.B.Broker.group (record { saw_ledger = g.B.Seen.LedgerWitness.saw_ledger; saw_main = g.B.Seen.Witness.saw_main; saw_returns = g.B.Seen.Witness.saw_returns }) g.W.Transport.Transport.counts g.W.Transport.Transport.given g.W.Transport.Transport.accepted
          (arrivals c.args.setup.limits ran.0) c.run.new.routes.told c.refresh.new.self.shares
          (map (λ (handle : WorkerHandle g.row.B.Denot g.row.N.Denot g.row.B-Seen.Denot). handle.ports) pooled.handles.items)
          (map (λ (handle : WorkerHandle g.row.B.Denot g.row.N.Denot g.row.B-Seen.Denot). handle.desk) pooled.handles.items) pooled.served.items (map g.W.Poller.Poller.poller_calls pooled.pollers.items)
          c.refresh.ensures.told ran.3,
    )
