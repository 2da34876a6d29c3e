use Rattle.std.proofs.Common.{◌≡◌, length, arith}
use Rattle.std.specs.Prelude.{min}
use Rattle.mqtt_fields.specs.declared.property.Property.TheVariants.{ReasonString}
use Rattle.mqtt_fields.specs.PropertyLists.{optional, user_bytes, puback_list}
use Rattle.mqtt_fields.specs.Sizes.{greatest}
use Rattle.mqtt_fields.proofs.PropertySizeLaws.{saturated, puback_length}
use Rattle.mqtt_fields.proofs.property_sizes.puback_list_size.Goals as goal

pub returns : goal.returns
returns c =
    let p = c.args.properties.now in
    let reason : c.text_size-reason.result ≡ length (optional ReasonString p.reason_string) = c.text_size-reason.ensures.value 0x1F in
    let users : c.user_properties_size.result ≡ min (length (user_bytes p.user_properties)) greatest = rw (← c.as_slice.ensures) c.user_properties_size.ensures in
    saturated c.saturating_add.result c.user_properties_size.result (c.text_size-reason.result) (length (user_bytes p.user_properties)) (length (puback_list p)) c.saturating_add.ensures users
    (omega (arith, puback_length p, reason))
