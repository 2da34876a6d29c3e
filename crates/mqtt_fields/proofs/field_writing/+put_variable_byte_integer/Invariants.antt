use Rattle.mqtt_fields.proofs.field_writing.+put_variable_byte_integer.Given as goal

abbrev pub decreases-put_variable_byte_integer : goal.decreases-put_variable_byte_integer
decreases-put_variable_byte_integer l = l.more
