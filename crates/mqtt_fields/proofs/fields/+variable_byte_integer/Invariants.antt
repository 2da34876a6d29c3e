use Rattle.mqtt_fields.proofs.fields.+variable_byte_integer.Given as goal

abbrev pub decreases-variable_byte_integer : goal.decreases-variable_byte_integer
decreases-variable_byte_integer l = l.more
