use Rattle.std.proofs.Common.{◌≡◌, ◌≤◌, length, take}
use Rattle.std.specs.List.{flat_map}
use Rattle.mqtt_wire.specs.Writing.{subscription_bytes}
use Rattle.mqtt_wire.proofs.sizes.subscriptions_size.Given as goal

abbrev pub invariant-loop-entry : goal.invariant-loop-entry
invariant-loop-entry l = record {
  so_far : l.size ≡ length (flat_map subscription_bytes (take l.entry-index l.entries));
  small : l.size ≤ 268435455;
}
