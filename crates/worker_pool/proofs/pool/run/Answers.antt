-- What a pool gives back.
use Rattle.std.proofs.Common.{List, map, All, sym, subst, ◌∙◌, ap, arith}
use Rattle.conn_channel.specs.Ends.{ChannelId}
use Rattle.worker_connections.specs.declared.handle.WorkerHandle.{WorkerHandle}
use Rattle.worker_connections.specs.Arrivals.{ArrivedState}
use Rattle.worker_pool.specs.declared.accepting.SourceEnd.{SourceEnd}
use Rattle.worker_pool.specs.Accepting.{AcceptorState, EndedAs, Gave}
use Rattle.worker_pool.specs.Pools.{AreServed}
use Rattle.worker_pool.specs.Workers.{HasServed}
use Rattle.worker_pool.proofs.Accepted.{came_count, sent_is}
use Rattle.worker_pool.proofs.Gathered.{counts_all}
use Rattle.worker_pool.proofs.pool.run.Goals as goal

pub retire-requires-clause-workers : goal.retire-requires-clause-workers
retire-requires-clause-workers g c =
    let channel = c.run_all.ensures.accepted.channel ∙ ap (λ (a : AcceptorState g.row.W-Transport.Denot g.row.W-Source.Denot). a.sender.channel) c.new-acceptor.ensures in
    let Of : ChannelId (ArrivedState g.row.W-Transport.Denot) → Type 0 = λ channel. All (HasServed channel c.args.shared_broker.now) c.run_all.new.workers.items in
    subst Of (sym channel) (c.run_all.ensures.run.served c.in-Ok.field-0.sender.channel c.args.shared_broker.now c.in-Ok-hire.ensures.hired.1)

pub retire-requires-clause-numbered : goal.retire-requires-clause-numbered
retire-requires-clause-numbered g c =
    (c.in-Ok-hire.ensures.numbered.0, c.run_all.ensures.run.numbered c.in-Ok-hire.ensures.numbered.0 c.in-Ok-hire.ensures.numbered.1)

pub retire-requires-clause-count : goal.retire-requires-clause-count
retire-requires-clause-count g c =
    let receivers = ap (λ (a : AcceptorState g.row.W-Transport.Denot g.row.W-Source.Denot). a.sender.receivers) c.new-acceptor.ensures in
    let count = c.run_all.ensures.run.count in (
      omega (arith, count, c.in-Ok-hire.ensures.hired.0, c.requires.workers.0),
      omega (arith, count, c.in-Ok-hire.ensures.hired.0, receivers, c.run_all.ensures.accepted.receivers, c.in-Ok.ensures.sender.0, c.requires.setup),
    )

pub returns-clause-taken : goal.returns-clause-taken
returns-clause-taken g c =
    let accepted = c.run_all.ensures.accepted in
    let source = ap (λ (s : g.row.W-Source.Denot). (g.W.Source.Source.tally s).arrivals) c.retire.ensures.source in
    let before = ap (λ (a : AcceptorState g.row.W-Transport.Denot g.row.W-Source.Denot). (g.W.Source.Source.tally a.source).arrivals) c.new-acceptor.ensures in
    let none = ap (λ (a : AcceptorState g.row.W-Transport.Denot g.row.W-Source.Denot). a.sender.sent) c.new-acceptor.ensures ∙ c.in-Ok.ensures.sender.1 in
    let count = came_count _ accepted.came _ _ none accepted.sent in
    omega (arith, source, before, count, c.retire.ensures.came, accepted.each)

pub returns-clause-ends : goal.returns-clause-ends
returns-clause-ends g c =
    let first = c.new-acceptor.ensures in
    let last = c.run_all.new.acceptor in
    let told = c.run_all.ensures.ends (ap (λ (a : AcceptorState g.row.W-Transport.Denot g.row.W-Source.Denot). a.end) first) in
    let Ended : SourceEnd → g.row.W-Source.Denot → g.row.W-Source.Denot → Type 0 = λ end old new. EndedAs g.W.Source.Source.tally end old new in
    subst (λ new. Ended c.retire.result.taken.end c.args.setup.source new) (sym c.retire.ensures.source)
    (subst (λ end. Ended end c.args.setup.source last.source) (sym c.retire.ensures.ends)
    (subst (λ old. Ended last.end old last.source) (ap (λ (a : AcceptorState g.row.W-Transport.Denot g.row.W-Source.Denot). a.source) first) told))

pub returns-clause-served : goal.returns-clause-served
returns-clause-served g c =
    let accepted = c.run_all.ensures.accepted in
    let first = c.new-acceptor.ensures in
    let none = ap (λ (a : AcceptorState g.row.W-Transport.Denot g.row.W-Source.Denot). a.sender.sent) first ∙ c.in-Ok.ensures.sender.1 in
    let limits = ap (λ (a : AcceptorState g.row.W-Transport.Denot g.row.W-Source.Denot). a.limits) first in
    let sent = sent_is accepted.came _ _ _ _ none limits accepted.sent in
    let Source : g.row.W-Source.Denot → g.row.W-Source.Denot → Type 0 = λ old new. Gave g.W.Source.Source.arrived old accepted.came new in
    let Served : List (ArrivedState g.row.W-Transport.Denot) → Type 0 = λ arrived.
    AreServed g.B.Broker.group (record { saw_ledger = g.B.Seen.LedgerWitness.saw_ledger; saw_main = g.B.Seen.Witness.saw_main; saw_returns = g.B.Seen.Witness.saw_returns }) g.W.Transport.Transport.counts g.W.Transport.Transport.given g.W.Transport.Transport.accepted arrived c.retire.new.routes.told (map (λ (handle : WorkerHandle g.row.B.Denot g.row.N.Denot g.row.B-Seen.Denot). handle.ports) c.retire.result.handles.items) (map (λ (handle : WorkerHandle g.row.B.Denot g.row.N.Denot g.row.B-Seen.Denot). handle.desk) c.retire.result.handles.items) c.retire.result.served.items
    (map g.W.Poller.Poller.poller_calls c.retire.result.pollers.items) in (
      accepted.came,
      subst (λ new. Source c.args.setup.source new) (sym c.retire.ensures.source)
          (subst (λ old. Source old c.run_all.new.acceptor.source) (ap (λ (a : AcceptorState g.row.W-Transport.Denot g.row.W-Source.Denot). a.source) first) accepted.gave),
      c.retire.ensures.came ∙ came_count _ accepted.came _ _ none accepted.sent,
      subst Served sent c.retire.ensures.served,
    )

pub returns-clause-counted : goal.returns-clause-counted
returns-clause-counted g c few = counts_all c.retire.result.taken.came c.retire.result.served.items c.retire.ensures.counted few
