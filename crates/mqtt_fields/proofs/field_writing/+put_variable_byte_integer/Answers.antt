use Rattle.mqtt_fields.proofs.BufferLaws.{next_byte, appends_both}
use Rattle.mqtt_fields.proofs.field_writing.+put_variable_byte_integer.Goals as goal

pub returns : goal.returns
returns t c =
    rw (next_byte c.args.more c.args.number c.if-number-lt128.false c.requires.limit)
    (appends_both _ _ _ _ _ c.put_byte-2.ensures c.put_variable_byte_integer.ensures)
