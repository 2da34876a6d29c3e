use Rattle.std.proofs.Common.{◌≡◌, ◌≤◌, length, get_or, None, ap, arith}
use Rattle.mqtt_packet.specs.declared.packet_properties.PublishProperties.{PublishProperties}
use Rattle.mqtt_fields.specs.Properties.{nothing}
use Rattle.mqtt_fields.specs.declared.property.Section.TheVariants.{Publish}
use Rattle.mqtt_wire.proofs.ShortLaws.{empty_section}
use Rattle.mqtt_wire.proofs.bodies.read_publish_properties.Goals as goal

pub returns-in-0 : goal.returns-in-0
returns-in-0 c =
    let some : 1 ≤ length c.as_slice.result.now = omega arith in
    let zero : get_or c.as_slice.result.now 0 0 ≡ 0 = omega arith in
    (nothing, ap (λ (properties : PublishProperties). (None, properties)) c.none.ensures, rw (c.advance.ensures, ← c.as_slice.ensures) (empty_section Publish c.as_slice.result.now some zero))
