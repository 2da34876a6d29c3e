use Rattle.std.proofs.Common.{◌≡◌, ◌≤◌, vec_capacity}
use Rattle.bell.specs.Rule.{IsNew}
use Rattle.bell.specs.Calls.{AreRingers, AreRingersOf}
use Rattle.bell.proofs.bell.seat_ringers.Given as goal

abbrev pub invariant-loop : goal.invariant-loop
invariant-loop l = record {
  bell : l.pass.table_id ≡ l.fn.pass.table_id;
  knows : IsNew l.pass.me;
  made : AreRingers l.fn.pass.table_id l.counter l.row.items;
  of : AreRingersOf l.fn.pass.table_id l.row.items;
  room : (l.fn.count ≤ vec_capacity l.row) × (l.count ≡ l.fn.count);
}
