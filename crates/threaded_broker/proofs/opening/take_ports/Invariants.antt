-- Each handle has a seat and the ports of one worker, and the seats that are left are those of the gate.
use Rattle.std.proofs.Common.{◌≡◌, ◌+◌, ◌<◌, ◌≤◌, All, length, vec_len, vec_capacity}
use Rattle.gate_word.specs.Seats.{AreSeatsOf}
use Rattle.broker_groups.specs.Naming.{AreUnsent}
use Rattle.worker_connections.specs.Handles.{IsUnused}
use Rattle.threaded_broker.proofs.opening.take_ports.Given as goal

abbrev pub invariant-handles : goal.invariant-handles
invariant-handles g l = record {
  seats : AreSeatsOf l.gate l.seats.items;
  dealt : length l.handles.items + length l.left.items ≡ length l.fn.ports.items;
  taken : length l.seats.items + length l.handles.items ≡ length l.fn.seats.items;
  enough : length l.fn.ports.items ≤ length l.fn.seats.items;
  room : length l.fn.ports.items ≤ vec_capacity l.handles;
  unused : All (λ handle. IsUnused handle.ports handle.desk) l.handles.items;
  caller : l.caller ≡ record l.fn.caller { parts = l.caller.parts };
  parts : l.caller.parts + length l.handles.items ≡ l.fn.caller.parts;
  enough_parts : length l.fn.ports.items < l.fn.caller.parts;
  left : All AreUnsent l.left.items;
}

abbrev pub decreases-handles : goal.decreases-handles
decreases-handles g l = vec_len l.left
