use Rattle.std.proofs.Common.{◌≡◌, length, take}
use Rattle.std.specs.Prelude.{min}
use Rattle.mqtt_fields.specs.PropertyLists.{user_bytes}
use Rattle.mqtt_fields.specs.Sizes.{greatest}
use Rattle.mqtt_fields.proofs.property_sizes.user_properties_size.Given as goal

abbrev pub invariant-loop-property : goal.invariant-loop-property
invariant-loop-property l = l.size ≡ min (length (user_bytes (take l.property-index l.properties))) greatest
