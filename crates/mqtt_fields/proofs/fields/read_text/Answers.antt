use Rattle.mqtt_fields.proofs.FieldLaws.{binary_shorter}
use Rattle.mqtt_fields.proofs.fields.read_text.Goals as goal

pub returns-in-Some-clause-shorter : goal.returns-in-Some-clause-shorter
returns-in-Some-clause-shorter c = binary_shorter _ _ c.in_ok-read_data.ensures.field
