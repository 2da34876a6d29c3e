use Rattle.std.proofs.Common.{◌≡◌, ◌≤◌, vec_capacity}
use Rattle.bell.specs.Rule.{IsNew}
use Rattle.bell.specs.Calls.{AreListeners, AreListenersOf}
use Rattle.bell.proofs.bell.seat_listeners.Given as goal

abbrev pub invariant-loop-worker : goal.invariant-loop-worker
invariant-loop-worker l = record {
  bell : l.pass.table_id ≡ l.fn.pass.table_id;
  knows : IsNew l.pass.me;
  made : AreListeners l.fn.pass.table_id l.worker l.row.items;
  of : AreListenersOf l.fn.pass.table_id l.row.items;
  room : (l.fn.count ≤ vec_capacity l.row) × (l.count ≡ l.fn.count) × (l.count ≤ 32);
}
