use Rattle.std.proofs.Common.{take, drop}
use Rattle.std.specs.List.{flat_map, AllByRecursion}
use Rattle.mqtt_wire.specs.Writing.{subscription_bytes}
use Rattle.mqtt_wire.specs.Ranges.{IsFiltered}
use Rattle.mqtt_fields.specs.Buffers.{HasRoom, Appends}
use Rattle.mqtt_wire.proofs.body_writing.put_subscriptions.Given as goal

-- those before this one are written, and are in their ranges; there is room for the others
abbrev pub invariant-loop-entry : goal.invariant-loop-entry
invariant-loop-entry l = record {
  appended : Appends l.initial.out (flat_map subscription_bytes (take l.entry-index l.entries)) l.out;
  room : HasRoom l.out (flat_map subscription_bytes (drop l.entry-index l.entries));
  fits : AllByRecursion IsFiltered (take l.entry-index l.entries);
}
