use Rattle.std.proofs.Common.{arith}
use Rattle.mqtt_fields.proofs.FieldLaws.{byte_shorter, text_shorter}
use Rattle.mqtt_wire.proofs.bodies.read_subscription.Goals as goal

pub returns-clause-shorter : goal.returns-clause-shorter
returns-clause-shorter c =
    omega (arith, text_shorter _ _ c.in_ok-filter.ensures.field, byte_shorter _ _ c.in_ok-read_byte.ensures)
