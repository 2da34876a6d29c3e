use Rattle.std.proofs.Common.{◌≡◌, take}
use Rattle.mqtt_packet.proofs.user_properties.UserProperties.try_clone.Given as goal

abbrev pub invariant-loop-property : goal.invariant-loop-property
invariant-loop-property l = l.properties.items ≡ take l.property-index l.property-items
