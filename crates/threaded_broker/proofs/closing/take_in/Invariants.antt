-- Each handle that is gone gave its ports and its caller.
use Rattle.std.proofs.Common.{◌≡◌, ◌+◌, ◌≤◌, ◌++◌, length, map, vec_capacity}
use Rattle.std.specs.Vec.Iter.{into_iter_items}
use Rattle.threaded_broker.specs.Callers.{DeskCallerState, HasTakenIn}
use Rattle.threaded_broker.proofs.closing.take_in.Given as goal

abbrev pub invariant-loop-handle : goal.invariant-loop-handle
invariant-loop-handle g l = record {
  given : l.ports.items ++ map (λ handle. handle.ports) (into_iter_items l.handle-iterator) ≡ map (λ handle. handle.ports) l.fn.handles.items;
  room : length l.ports.items + length (into_iter_items l.handle-iterator) ≤ vec_capacity l.ports;
  taken_in : (new : DeskCallerState) → HasTakenIn l.caller (map (λ handle. handle.desk) (into_iter_items l.handle-iterator)) new → HasTakenIn l.fn.caller (map (λ handle. handle.desk) l.fn.handles.items) new;
}
