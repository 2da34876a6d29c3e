use Rattle.std.proofs.Common.{arith}
use Rattle.mqtt_fields.specs.Sections.{value_at}
use Rattle.mqtt_fields.proofs.FieldLaws.{byte_shorter}
use Rattle.mqtt_fields.proofs.PropertyLaws.{value_shorter}
use Rattle.mqtt_fields.proofs.SectionLaws.{field_shorter}
use Rattle.mqtt_fields.proofs.sections.read_property.Goals as goal

pub returns-clause-shorter : goal.returns-clause-shorter
returns-clause-shorter c =
    let byte = byte_shorter c.args.list.now (c.in_ok-identifier.identifier, c.read_byte.new.body) c.in_ok-identifier.ensures in
    field_shorter c.read_value.result c.read_value.new.list c.args.list.now (value_at c.in-Some.name c.read_byte.new.body)
    (λ x e. omega (arith, byte, value_shorter c.in-Some.name c.read_byte.new.body x e)) c.read_value.ensures.field
