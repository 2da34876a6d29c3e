use Rattle.std.proofs.Common.{arith, ap, length, length-append, ◌∷◌}
use Rattle.mqtt_fields.specs.Forms.{utf8_string}
use Rattle.mqtt_fields.specs.PropertyLists.{optional}
use Rattle.mqtt_fields.specs.declared.property.Property.TheVariants.{AuthenticationData}
use Rattle.mqtt_fields.proofs.property_sizes.authentication_size.Goals as goal

pub returns-in-Some-clause-value : goal.returns-in-Some-clause-value
returns-in-Some-clause-value c =
    let a = c.in-Some.authentication in
    rw c.in-Some.is
    (omega (arith, ap length c.as_bytes.ensures.value, c.binary_size.ensures.value 0x16, length-append (0x15 ∷ utf8_string a.method) (optional AuthenticationData a.authentication_data)))
