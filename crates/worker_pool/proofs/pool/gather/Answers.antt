-- One worker more has given back what it had.
use Rattle.std.proofs.Common.{◌≡◌, ◌+◌, ◌*◌, ◌≤◌, ◌++◌, ℕ, List, [], ◌∷◌, Some, length, map, ◌∙◌, ap, subst, sym, rules, arith}
use Rattle.std.proofs.Math.ListN.{length-append}
use Rattle.std.proofs.Math.Nat.{zero-mul}
use Rattle.std.proofs.lemmas.List.Elements.{All-pop, All-push, All-same}
use Rattle.std.proofs.lemmas.List.Sums.{sum_by_push}
use Rattle.conn_channel.specs.Ends.{ReceiverState, end_marks_received_by}
use Rattle.shared_routes.specs.Known.{KnownState}
use Rattle.worker_connections.specs.declared.handle.WorkerHandle.{WorkerHandle}
use Rattle.worker_connections.specs.Arrivals.{ArrivedState}
use Rattle.worker_connections.specs.Serving.{AreCounted, Ties}
use Rattle.worker_pool.specs.Workers.{AreNumbered, HasServed, IsNumbered}
use Rattle.broker_worker.proofs.Places.{popped_at}
use Rattle.worker_pool.specs.Pools.{HaveEnded}
use Rattle.worker_pool.proofs.Gathered.{counts_one_more, ends, map_push, one_more}
use Rattle.worker_pool.proofs.pool.gather.Goals as goal

pub publish-requires : goal.publish-requires
publish-requires g c =
    let split = All-pop (HasServed c.args.sender.now.channel c.args.shared_broker.now) c.workers.workers.items c.pop.new.self.items (Some c.in-Some.worker) c.in-Some.ensures.items c.workers.invariant.workers in
    let known = c.into_parts-handle.ensures.known split.1.1.none_live in
    c.workers.invariant.table ∙ sym (ap (λ (k : KnownState). k.table) known ∙ ap (λ (its : Ties g.row.T.Denot). its.table) split.1.0)

pub workers-preserved : goal.workers-preserved
workers-preserved g c =
    let split = All-pop (HasServed c.args.sender.now.channel c.args.shared_broker.now) c.workers.workers.items c.pop.new.self.items (Some c.in-Some.worker) c.in-Some.ensures.items c.workers.invariant.workers in
    let done = split.1 in
    let left = simp length-append at (ap length c.in-Some.ensures.items) in
    let handles = simp length-append at (ap length c.push_reserved.ensures.items) in
    let receivers = simp length-append at (ap length c.push_reserved-in-Some.ensures.items) in
    let served = simp length-append at (ap length c.push_reserved-in-Some-2.ensures.items) in
    let pollers = simp length-append at (ap length c.push_reserved-in-Some-3.ensures.items) in
    let returned = c.into_parts-handle.result in
    let receiver = returned.receiver in
    let is = c.into_parts-handle.ensures.receiver in
    let Of : ReceiverState (ArrivedState g.row.T.Denot) → Type 0 = λ r. r.channel ≡ c.args.sender.now.channel in
    let mark = ap (λ (r : ReceiverState (ArrivedState g.row.T.Denot)). r.end_marks_received) is in
    let marks = ap (λ (rs : List (ReceiverState (ArrivedState g.row.T.Denot))). end_marks_received_by rs) c.push_reserved-in-Some.ensures.items ∙ sum_by_push (λ (r : ReceiverState (ArrivedState g.row.T.Denot)). r.end_marks_received) c.workers.receivers.items receiver in
    let none = done.1.none_live in
    let ports = ap (λ (l : List (WorkerHandle g.row.B.Denot g.row.N.Denot g.row.B-Seen.Denot)). map (λ (handle : WorkerHandle g.row.B.Denot g.row.N.Denot g.row.B-Seen.Denot). handle.ports) l) c.push_reserved.ensures.items ∙ map_push (λ (handle : WorkerHandle g.row.B.Denot g.row.N.Denot g.row.B-Seen.Denot). handle.ports) c.workers.handles.items returned.handle in
    let callers = ap (λ (l : List (WorkerHandle g.row.B.Denot g.row.N.Denot g.row.B-Seen.Denot)). map (λ (handle : WorkerHandle g.row.B.Denot g.row.N.Denot g.row.B-Seen.Denot). handle.desk) l) c.push_reserved.ensures.items ∙ map_push (λ (handle : WorkerHandle g.row.B.Denot g.row.N.Denot g.row.B-Seen.Denot). handle.desk) c.workers.handles.items returned.handle in
    let shut = ap (λ (l : List g.row.Q.Denot). map g.Q.Poller.poller_calls l) c.push_reserved-in-Some-3.ensures.items ∙ map_push g.Q.Poller.poller_calls c.workers.pollers.items returned.poller in
    let published = c.publish.ensures.told in
    let share = c.workers.invariant.ended.0 in
    let numbered = popped_at (IsNumbered share) 0 c.pop.new.self.items c.in-Some.worker (subst (AreNumbered share) c.in-Some.ensures.items c.workers.invariant.ended.1) in
    let count : length c.workers.workers.items ≡ length c.pop.new.self.items + 1 = omega (arith, left) in
    let times : length c.workers.workers.items * share ≡ length c.pop.new.self.items * share + share = ap (λ n. n * share) count ∙ one_more (length c.pop.new.self.items) share in
    let all : 0 + length c.pop.new.self.items ≡ length c.pop.new.self.items = omega arith in
    let least_is : c.in-Some.worker.connections.first ≡ length c.pop.new.self.items * share = numbered.1.0 ∙ ap (λ n. n * share) all in
    let below : c.in-Some.worker.connections.first + length c.in-Some.worker.connections.cells ≤ length c.workers.workers.items * share = omega (arith, times, least_is, numbered.1.1) in
    let Ended : ℕ → Type 0 = λ least. HaveEnded g.B.Broker.group (record { saw_ledger = g.B.Seen.LedgerWitness.saw_ledger; saw_main = g.B.Seen.Witness.saw_main; saw_returns = g.B.Seen.Witness.saw_returns }) g.T.Transport.counts g.T.Transport.given g.T.Transport.accepted least
    (map (λ (handle : WorkerHandle g.row.B.Denot g.row.N.Denot g.row.B-Seen.Denot). handle.ports) c.push_reserved.new.self.items) (map (λ (handle : WorkerHandle g.row.B.Denot g.row.N.Denot g.row.B-Seen.Denot). handle.desk) c.push_reserved.new.self.items)
    c.push_reserved-in-Some.new.self.items c.push_reserved-in-Some-2.new.self.items (map g.Q.Poller.poller_calls c.push_reserved-in-Some-3.new.self.items) c.publish.new.other.told in
    record {
      workers = split.0;
      table = ap (λ (k : KnownState). k.table) published.same ∙ c.workers.invariant.table;
      routes = published.same ∙ ap (λ (k : KnownState). record k { told = c.publish.new.other.told }) c.workers.invariant.routes;
      handles = omega (arith, left, handles, c.workers.invariant.handles);
      hands_room = omega (arith, left, handles, c.workers.invariant.hands_room, c.push_reserved.ensures.capacity);
      receivers = omega (arith, left, receivers, c.workers.invariant.receivers);
      receivers_room = omega (arith, left, receivers, c.workers.invariant.receivers_room, c.push_reserved-in-Some.ensures.capacity);
      served_room = omega (arith, left, served, c.workers.invariant.served_room, c.push_reserved-in-Some-2.ensures.capacity);
      pollers_room = omega (arith, left, pollers, c.workers.invariant.pollers_room, c.push_reserved-in-Some-3.ensures.capacity);
      of =
          All-same Of c.push_reserved-in-Some.new.self.items (c.workers.receivers.items ++ receiver ∷ []) c.push_reserved-in-Some.ensures.items
          (All-push Of c.workers.receivers.items receiver c.workers.invariant.of (ap (λ (r : ReceiverState (ArrivedState g.row.T.Denot)). r.channel) is ∙ ap (λ (its : Ties g.row.T.Denot). its.channel) done.0));
      marks = omega (arith, left, marks, mark, done.1.mark, c.workers.invariant.marks);
      all =
          counts_one_more c.workers.receivers.items c.push_reserved-in-Some.new.self.items c.workers.served.items c.push_reserved-in-Some-2.new.self.items receiver returned.served
          c.workers.invariant.all c.push_reserved-in-Some.ensures.items c.push_reserved-in-Some-2.ensures.items
          (subst (λ (r : ReceiverState (ArrivedState g.row.T.Denot)). AreCounted (length r.received) returned.served) (sym is) (c.into_parts-handle.ensures.counted none));
      ended = (
        share,
        numbered.0,
        subst Ended least_is
            (ends g.B.Broker.group (record { saw_ledger = g.B.Seen.LedgerWitness.saw_ledger; saw_main = g.B.Seen.Witness.saw_main; saw_returns = g.B.Seen.Witness.saw_returns }) g.T.Transport.counts g.T.Transport.given g.T.Transport.accepted _ _ _ _ _ c.workers.receivers.items c.push_reserved-in-Some.new.self.items
            c.workers.served.items c.push_reserved-in-Some-2.new.self.items _ _ c.workers.routes.told c.publish.new.other.told returned.known returned.handle.ports returned.handle.desk receiver returned.served
            (g.Q.Poller.poller_calls returned.poller) c.in-Some.worker.connections
            c.workers.invariant.ended.2 ports callers c.push_reserved-in-Some.ensures.items c.push_reserved-in-Some-2.ensures.items shut
            c.into_parts-handle.ensures.ran none (c.into_parts-handle.ensures.ports none) (c.into_parts-handle.ensures.desk none) is c.into_parts-handle.ensures.served c.into_parts-handle.ensures.poller_calls
            (ap (λ (its : Ties g.row.T.Denot). its.parts) done.0)
            (c.into_parts-handle.ensures.known none) published.kept published.told below),
      );
    }

pub returns-clause-ended : goal.returns-clause-ended
returns-clause-ended g c =
    let none : length c.workers.workers.items ≡ 0 = search rules in
    let share = c.workers.invariant.ended.0 in
    let Ended : ℕ → Type 0 = λ least. HaveEnded g.B.Broker.group (record { saw_ledger = g.B.Seen.LedgerWitness.saw_ledger; saw_main = g.B.Seen.Witness.saw_main; saw_returns = g.B.Seen.Witness.saw_returns }) g.T.Transport.counts g.T.Transport.given g.T.Transport.accepted least
    (map (λ (handle : WorkerHandle g.row.B.Denot g.row.N.Denot g.row.B-Seen.Denot). handle.ports) c.workers.handles.items) (map (λ (handle : WorkerHandle g.row.B.Denot g.row.N.Denot g.row.B-Seen.Denot). handle.desk) c.workers.handles.items)
    c.workers.receivers.items c.workers.served.items (map g.Q.Poller.poller_calls c.workers.pollers.items) c.workers.routes.told in
    subst Ended (ap (λ n. n * share) none ∙ zero-mul share) c.workers.invariant.ended.2
