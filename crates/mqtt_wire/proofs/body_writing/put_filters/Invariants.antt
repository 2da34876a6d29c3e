use Rattle.std.proofs.Common.{take, drop}
use Rattle.std.specs.List.{flat_map, AllByRecursion}
use Rattle.mqtt_packet.specs.Texts.{IsText}
use Rattle.mqtt_fields.specs.Forms.{utf8_string}
use Rattle.mqtt_fields.specs.Buffers.{HasRoom, Appends}
use Rattle.mqtt_wire.proofs.body_writing.put_filters.Given as goal

-- those before this one are written, and are in their ranges; there is room for the others
abbrev pub invariant-loop-filter : goal.invariant-loop-filter
invariant-loop-filter l = record {
  appended : Appends l.initial.out (flat_map utf8_string (take l.filter-index l.filters)) l.out;
  room : HasRoom l.out (flat_map utf8_string (drop l.filter-index l.filters));
  fits : AllByRecursion IsText (take l.filter-index l.filters);
}
