use Rattle.std.proofs.Common.{◌≡◌, ◌≤◌, length, take}
use Rattle.std.specs.List.{flat_map}
use Rattle.mqtt_fields.specs.Forms.{utf8_string}
use Rattle.mqtt_wire.proofs.sizes.filters_size.Given as goal

abbrev pub invariant-loop-filter : goal.invariant-loop-filter
invariant-loop-filter l = record {
  so_far : l.size ≡ length (flat_map utf8_string (take l.filter-index l.filters));
  small : l.size ≤ 268435455;
}
