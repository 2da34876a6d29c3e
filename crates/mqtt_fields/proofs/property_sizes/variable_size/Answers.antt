use Rattle.std.proofs.Common.{sym}
use Rattle.mqtt_fields.proofs.Variable.{is_one_byte, is_two_bytes, is_three_bytes, is_four_bytes}
use Rattle.mqtt_fields.proofs.property_sizes.variable_size.Goals as goal

pub returns-then-number-lt128-clause-value : goal.returns-then-number-lt128-clause-value
returns-then-number-lt128-clause-value c = sym (is_one_byte c.args.number c.if-number-lt128.true)

pub returns-then-number-lt16384-clause-value : goal.returns-then-number-lt16384-clause-value
returns-then-number-lt16384-clause-value c = sym (is_two_bytes c.args.number c.if-number-lt128.false c.if-number-lt16384.true)

pub returns-then-number-lt2097152-clause-value : goal.returns-then-number-lt2097152-clause-value
returns-then-number-lt2097152-clause-value c = sym (is_three_bytes c.args.number c.if-number-lt16384.false c.if-number-lt2097152.true)

pub returns-else-number-lt2097152-clause-value : goal.returns-else-number-lt2097152-clause-value
returns-else-number-lt2097152-clause-value c = sym (is_four_bytes c.args.number c.if-number-lt2097152.false c.requires)
