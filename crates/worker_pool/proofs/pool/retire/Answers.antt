-- What workers give back that have ended.
use Rattle.std.proofs.Common.{◌≡◌, ◌*◌, ◌<◌, List, [], length, map, sym, subst, ◌∙◌, ap, All, arith}
use Rattle.conn_channel.specs.Ends.{ChannelId, AreOf, end_marks_received_by}
use Rattle.group_jobs.specs.Stamps.{Held}
use Rattle.session_desk.specs.Calls.{Call}
use Rattle.call_history.specs.Callers.{CallerState}
use Rattle.group_queue.specs.Ports.{PortState}
use Rattle.group_queue.specs.Places.{PlaceState}
use Rattle.conn_channel.specs.Ends.{ReceiverState}
use Rattle.worker_connections.specs.declared.handle.WorkerHandle.{WorkerHandle}
use Rattle.worker_connections.specs.declared.served.ServedCounts.{ServedCounts}
use Rattle.worker_connections.specs.Arrivals.{ArrivedState}
use Rattle.worker_pool.specs.Pools.{HaveEnded}
use Rattle.worker_pool.specs.Workers.{HasServed}
use Rattle.worker_pool.proofs.Gathered.{counts_them, nobody, serve}
use Rattle.worker_pool.proofs.pool.retire.Goals as goal

pub gather-requires-clause-workers : goal.gather-requires-clause-workers
gather-requires-clause-workers g c =
    let Of : ChannelId (ArrivedState g.row.W-Transport.Denot) → Type 0 = λ channel. All (HasServed channel c.args.shared_broker.now) c.args.workers.items in
    subst Of (sym (ap (λ s. s.channel) c.sender.ensures)) c.requires.workers

pub gather-requires-clause-ended : goal.gather-requires-clause-ended
gather-requires-clause-ended g c =
    let Ended : List (List PortState) → List (CallerState (Call Held PlaceState)) → List (ReceiverState (ArrivedState g.row.W-Transport.Denot)) → List ServedCounts → List g.row.W-Poller.Denot → Type 0 = λ ports callers receivers served pollers.
    HaveEnded g.B.Broker.group (record { saw_ledger = g.B.Seen.LedgerWitness.saw_ledger; saw_main = g.B.Seen.Witness.saw_main; saw_returns = g.B.Seen.Witness.saw_returns }) g.W.Transport.Transport.counts g.W.Transport.Transport.given g.W.Transport.Transport.accepted (length c.args.workers.items * c.requires.numbered.0) ports callers receivers served (map g.W.Poller.Poller.poller_calls pollers) c.args.routes.now.told in (
      c.requires.numbered.0,
      c.requires.numbered.1,
      subst (λ handles. Ended (map (λ (handle : WorkerHandle g.row.B.Denot g.row.N.Denot g.row.B-Seen.Denot). handle.ports) handles) (map (λ (handle : WorkerHandle g.row.B.Denot g.row.N.Denot g.row.B-Seen.Denot). handle.desk) handles) c.args.receivers.items c.args.served.items c.args.pollers.items) (sym c.requires.handles.0)
          (subst (λ receivers. Ended [] [] receivers c.args.served.items c.args.pollers.items) (sym c.requires.receivers.0)
          (subst (λ served. Ended [] [] [] served c.args.pollers.items) (sym c.requires.served.0)
          (subst (λ pollers. Ended [] [] [] [] pollers) (sym c.requires.pollers.0)
          (nobody g.B.Broker.group (record { saw_ledger = g.B.Seen.LedgerWitness.saw_ledger; saw_main = g.B.Seen.Witness.saw_main; saw_returns = g.B.Seen.Witness.saw_returns }) g.W.Transport.Transport.counts g.W.Transport.Transport.given g.W.Transport.Transport.accepted (length c.args.workers.items * c.requires.numbered.0) c.args.routes.now.told)))),
    )

pub settle-requires-clause-of : goal.settle-requires-clause-of
settle-requires-clause-of g c =
    let same : c.sender.result.now ≡ c.into_parts-sender.result.0 = c.sender.ensures ∙ sym c.into_parts-sender.ensures.sender in
    let Of : ChannelId (ArrivedState g.row.W-Transport.Denot) → Type 0 = λ channel. AreOf channel c.gather.new.receivers.items in
    subst Of (ap (λ s. s.channel) same) c.gather.ensures.of

pub returns-clause-served : goal.returns-clause-served
returns-clause-served g c =
    let some : 0 < end_marks_received_by c.gather.new.receivers.items = omega (arith, c.gather.ensures.marks, c.requires.count.0) in
    serve g.B.Broker.group (record { saw_ledger = g.B.Seen.LedgerWitness.saw_ledger; saw_main = g.B.Seen.Witness.saw_main; saw_returns = g.B.Seen.Witness.saw_returns }) g.W.Transport.Transport.counts g.W.Transport.Transport.given g.W.Transport.Transport.accepted 0 c.into_parts-sender.result.0 _ _ _ c.gather.new.receivers.items c.gather.new.served.items
    (map g.W.Poller.Poller.poller_calls c.gather.new.pollers.items) c.gather.new.routes.told
    (sym (ap (λ s. s.sent) c.into_parts-sender.ensures.sender)) c.gather.ensures.ended c.settle.ensures.settled some

pub returns-clause-counted : goal.returns-clause-counted
returns-clause-counted g c =
    let all = counts_them c.gather.new.receivers.items c.gather.new.served.items c.gather.ensures.all in
    let sent = ap (λ s. length s.sent) c.into_parts-sender.ensures.sender in
    let some : 0 < end_marks_received_by c.gather.new.receivers.items = omega (arith, c.gather.ensures.marks, c.requires.count.0) in
    record {
      endings = all.endings;
      counted = all.counted;
      all = omega (arith, all.all, sent, c.into_parts-sender.ensures.came, c.settle.ensures.balance.balance, c.settle.ensures.balance.last some);
    }
