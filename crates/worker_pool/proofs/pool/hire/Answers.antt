-- One worker more is hired, or all that were are let go.
use Rattle.std.proofs.Common.{◌≡◌, ◌+◌, ◌*◌, ◌++◌, List, [], ◌∷◌, Some, length, refl, sym, subst, ◌∙◌, ap, rules, arith}
use Rattle.std.proofs.Math.ListN.{length-append}
use Rattle.std.proofs.lemmas.List.Elements.{All-pop, All-push, All-same}
use Rattle.conn_channel.specs.Ends.{ReceiverState}
use Rattle.broker_worker.specs.Parts.{ArePartsOf, IsPartsAt, PartsState}
use Rattle.broker_worker.proofs.Places.{popped_at, pushed_at}
use Rattle.broker_worker.specs.Resting.{WorkerState}
use Rattle.group_jobs.specs.Stamps.{Held}
use Rattle.session_desk.specs.Calls.{Call}
use Rattle.call_history.specs.Callers.{CallerState}
use Rattle.group_queue.specs.Places.{PlaceState}
use Rattle.worker_connections.specs.Handles.{IsUnused}
use Rattle.worker_connections.specs.declared.handle.WorkerHandle.{WorkerHandle}
use Rattle.worker_connections.specs.Arrivals.{ArrivedState}
use Rattle.worker_connections.specs.Serving.{ties_of}
use Rattle.worker_pool.specs.Workers.{AreNumbered, IsHired, IsNumbered}
use Rattle.worker_pool.proofs.pool.hire.Goals as goal

-- a handle is unused
abbrev Unused : {B N W : Type 0} → WorkerHandle B N W → Type 0
Unused handle = IsUnused handle.ports handle.desk

pub begin-requires-clause-unused : goal.begin-requires-clause-unused
begin-requires-clause-unused g c = (All-pop Unused c.all_worker_parts.handles.items _ (Some c.in-Some-pop.handle) c.in-Some-pop.ensures.items c.all_worker_parts.invariant.unused).1

pub begin-requires-clause-received : goal.begin-requires-clause-received
begin-requires-clause-received g c =
    let share = c.all_worker_parts.invariant.numbered.0 in
    let Parts : List (PartsState g.row.T.Denot) → Type 0 = λ all. ArePartsOf (length c.args.handles.items) share c.args.sender.now.channel all in
    let split = popped_at (IsPartsAt (length c.args.handles.items) share c.args.sender.now.channel) 0 c.pop.new.self.items c.in-Some.worker_parts
    (subst Parts c.in-Some.ensures.items c.all_worker_parts.invariant.numbered.1) in
    ap (λ (r : ReceiverState (ArrivedState g.row.T.Denot)). r.received) split.1.2

pub all_worker_parts-preserved : goal.all_worker_parts-preserved
all_worker_parts-preserved g c =
    let Hired : WorkerState g.row.T.Denot → Type 0 = λ worker. IsHired c.args.sender.now.channel c.args.shared_broker.now worker in
    let share = c.all_worker_parts.invariant.numbered.0 in
    let Parts : List (PartsState g.row.T.Denot) → Type 0 = λ all. ArePartsOf (length c.args.handles.items) share c.args.sender.now.channel all in
    let split = popped_at (IsPartsAt (length c.args.handles.items) share c.args.sender.now.channel) 0 c.pop.new.self.items c.in-Some.worker_parts
    (subst Parts c.in-Some.ensures.items c.all_worker_parts.invariant.numbered.1) in
    let unused = All-pop Unused c.all_worker_parts.handles.items _ (Some c.in-Some-pop.handle) c.in-Some-pop.ensures.items c.all_worker_parts.invariant.unused in
    let all_worker_parts = simp length-append at (ap length c.in-Some.ensures.items) in
    let handles = simp length-append at (ap length c.in-Some-pop.ensures.items) in
    let pushed = simp length-append at (ap length c.push_reserved.ensures.items) in
    let channel = ap (λ (r : ReceiverState (ArrivedState g.row.T.Denot)). r.channel) c.in-Ok-begin.ensures.fresh.receiver_is ∙ ap (λ (r : ReceiverState (ArrivedState g.row.T.Denot)). r.channel) split.1.2 in
    let number : c.in-Some.worker_parts.number ≡ 0 + length c.all_worker_parts.workers.items = omega (arith, split.1.0, all_worker_parts, handles, c.all_worker_parts.invariant.count, c.all_worker_parts.invariant.all_worker_parts) in
    let first : c.in-Ok-begin.worker.connections.first ≡ c.in-Some.worker_parts.number * share = c.in-Ok-begin.ensures.numbers.0 ∙ ap (λ n. c.in-Some.worker_parts.number * n) split.1.1 in
    let cells : length c.in-Ok-begin.worker.connections.cells ≡ share = c.in-Ok-begin.ensures.numbers.1 ∙ split.1.1 in
    let part = ap (λ (k : CallerState (Call Held PlaceState)). k.parts) c.in-Ok-begin.ensures.desk ∙ unused.1.one_part in
    record {
      all_worker_parts = omega (arith, all_worker_parts, handles, c.all_worker_parts.invariant.all_worker_parts);
      numbered = (
        share,
        split.0,
        subst (AreNumbered share) (sym c.push_reserved.ensures.items)
            (pushed_at (IsNumbered share) 0 c.all_worker_parts.workers.items c.in-Ok-begin.worker c.all_worker_parts.invariant.numbered.2
            (first ∙ ap (λ n. n * share) number, cells)),
      );
      count = omega (arith, handles, pushed, c.all_worker_parts.invariant.count);
      hired =
          All-same Hired c.push_reserved.new.self.items (c.all_worker_parts.workers.items ++ c.in-Ok-begin.worker ∷ []) c.push_reserved.ensures.items
          (All-push Hired c.all_worker_parts.workers.items c.in-Ok-begin.worker c.all_worker_parts.invariant.hired (λ i. record (ties_of c.in-Ok-begin.worker.connections) { channel = channel i; table = c.in-Ok-begin.ensures.routes i; parts = part i }));
      unused = unused.0;
      handles = omega (arith, c.all_worker_parts.invariant.handles, c.in-Some-pop.ensures.capacity);
      workers = omega (arith, c.all_worker_parts.invariant.workers, c.push_reserved.ensures.capacity);
    }

pub release-requires : goal.release-requires
release-requires g c =
    let handles = simp length-append at (ap length c.in-Some-pop.ensures.items) in
    let pushed = simp length-append at (ap length c.push_reserved-in-Err.ensures.items) in
    omega (arith, handles, pushed, c.all_worker_parts.invariant.count, c.all_worker_parts.invariant.handles, c.in-Some-pop.ensures.capacity, c.push_reserved-in-Err.ensures.capacity)

pub returns-in-Err-clause-back : goal.returns-in-Err-clause-back
returns-in-Err-clause-back g c =
    let handles = simp length-append at (ap length c.in-Some-pop.ensures.items) in
    let pushed = simp length-append at (ap length c.push_reserved-in-Err.ensures.items) in
    omega (arith, handles, pushed, c.all_worker_parts.invariant.count, c.release.ensures)

-- a list without elements is empty
none_left : {A : Type 0} (xs : List A) → length xs ≡ 0 → xs ≡ []
none_left [] none = refl
none_left (x ∷ xs) none = absurd (omega (arith, none))

pub returns-clause-handles : goal.returns-clause-handles
returns-clause-handles g c =
    let none : length c.all_worker_parts.handles.items ≡ 0 = search rules in
    (none_left c.all_worker_parts.handles.items none, c.all_worker_parts.invariant.handles)
