-- One handle more gave its ports and its caller.
use Rattle.std.proofs.Common.{◌++◌, ◌∷◌, List, [], length, map, sym, ap, subst, ◌∙◌, append_assoc, arith}
use Rattle.std.proofs.Math.ListN.{length-append}
use Rattle.std.specs.Vec.Iter.{into_iter_items}
use Rattle.group_queue.specs.Ports.{PortState}
use Rattle.group_queue.proofs.Endings.{nothing_left}
use Rattle.worker_connections.specs.declared.handle.WorkerHandle.{WorkerHandle}
use Rattle.threaded_broker.specs.Callers.{HasTakenIn}
use Rattle.threaded_broker.proofs.Callers.{takes_first, takes_none}
use Rattle.threaded_broker.proofs.closing.take_in.Goals as goal

pub loop-handle-preserved : goal.loop-handle-preserved
loop-handle-preserved g c =
    let Handle : Type 0 = WorkerHandle g.row.B.Denot g.row.N.Denot g.row.B-Seen.Denot in
    let next = c.in-Some.ensures.steps.0 in
    let rest = into_iter_items c.next.new.self in
    let pushed = c.push_reserved.ensures.items in
    let many = simp length-append at (ap length pushed) in
    let one = ap length next in
    record {
      given = ap (λ (l : List (List PortState)). l ++ map (λ (handle : Handle). handle.ports) rest) pushed
          ∙ append_assoc c.loop-handle.ports.items (c.in-Some.handle.ports ∷ []) (map (λ (handle : Handle). handle.ports) rest)
          ∙ ap (λ (l : List Handle). c.loop-handle.ports.items ++ map (λ (handle : Handle). handle.ports) l) (sym next)
          ∙ c.loop-handle.invariant.given;
      room = omega (arith, many, one, c.loop-handle.invariant.room, c.push_reserved.ensures.capacity);
      taken_in = λ new others.
          c.loop-handle.invariant.taken_in new
          (subst (λ (l : List Handle). HasTakenIn c.loop-handle.caller (map (λ (handle : Handle). handle.desk) l) new) (sym next)
          (takes_first c.loop-handle.caller c.agree.new.me new c.in-Some.handle.desk (map (λ (handle : Handle). handle.desk) rest) c.agree.ensures.joined c.agree.ensures.mine c.agree.ensures.others others));
    }

pub returns-clause-taken_in : goal.returns-clause-taken_in
returns-clause-taken_in g c =
    let Handle : Type 0 = WorkerHandle g.row.B.Denot g.row.N.Denot g.row.B-Seen.Denot in
    let none = nothing_left (into_iter_items c.loop-handle.handle-iterator) (omega (arith, c.loop-handle.handle-iterator.rest.ok.0, c.in-None.ensures.steps.0)) in
    c.loop-handle.invariant.taken_in c.loop-handle.caller
    (subst (λ (l : List Handle). HasTakenIn c.loop-handle.caller (map (λ (handle : Handle). handle.desk) l) c.loop-handle.caller) (sym none) (takes_none c.loop-handle.caller))
