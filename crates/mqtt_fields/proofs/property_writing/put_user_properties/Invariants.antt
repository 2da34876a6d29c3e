use Rattle.std.proofs.Common.{take, drop}
use Rattle.mqtt_fields.specs.PropertyLists.{user_bytes}
use Rattle.mqtt_fields.specs.FieldRanges.{ArePairs}
use Rattle.mqtt_fields.specs.Buffers.{HasRoom, Appends}
use Rattle.mqtt_fields.proofs.property_writing.put_user_properties.Given as goal

-- those before this one are written, and are in their ranges; there is room for the others
abbrev pub invariant-loop-property : goal.invariant-loop-property
invariant-loop-property l = record {
  appended : Appends l.initial.out (user_bytes (take l.property-index l.properties)) l.out;
  room : HasRoom l.out (user_bytes (drop l.property-index l.properties));
  fits : ArePairs (take l.property-index l.properties);
}
