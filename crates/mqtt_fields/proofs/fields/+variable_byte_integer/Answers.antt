use Rattle.std.proofs.Common.{arith, ◌-◌}
use Rattle.mqtt_fields.proofs.Variable.{limit_least, limit_small}
use Rattle.mqtt_fields.proofs.fields.+variable_byte_integer.Goals as goal

pub returns-then-byte-lt128-clause-bound : goal.returns-then-byte-lt128-clause-bound
returns-then-byte-lt128-clause-bound t c = omega (arith, limit_least c.args.more, c.from.ensures)

pub overflow_mul-result : goal.overflow_mul-result
overflow_mul-result t c =
    omega (arith, limit_small (c.args.more - 1) (omega arith), rw c.in-Some.is at c.in_ok-variable_byte_integer.ensures.bound)

pub overflow_add-result : goal.overflow_add-result
overflow_add-result t c =
    omega (arith, limit_small (c.args.more - 1) (omega arith), rw c.in-Some.is at c.in_ok-variable_byte_integer.ensures.bound, c.from-in-Some.ensures)
