use Rattle.std.proofs.Common.{arith, refl}
use Rattle.mqtt_fields.specs.Fields.{variable_field_at}
use Rattle.mqtt_fields.proofs.Variable.{variable_shorter, variable_rest}
use Rattle.mqtt_fields.proofs.fields.read_variable.Goals as goal

pub overflow_sub-size : goal.overflow_sub-size
overflow_sub-size c =
    let less = variable_shorter 3 c.as_slice-bytes.result.now (c.in-Some.number, c.in-Some.rest.now) (rw c.in-Some.is at c.in_ok-number.ensures.found) in
    omega arith

pub returns-clause-field : goal.returns-clause-field
unfolding variable_field_at
returns-clause-field c =
    let found = rw c.in-Some.is at c.in_ok-number.ensures.found in
    let rest = variable_rest 3 c.as_slice-bytes.result.now (c.in-Some.number, c.in-Some.rest.now) found in
    rw (c.advance.ensures, ← c.as_slice-bytes.ensures, found, rest) refl
