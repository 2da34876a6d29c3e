use Rattle.std.proofs.Common.{arith, ap, length}
use Rattle.mqtt_wire.proofs.WritingLaws.{payload_size}
use Rattle.mqtt_wire.proofs.sizes.connect_size.Goals as goal

pub returns-clause-value : goal.returns-clause-value
returns-clause-value c =
    omega (arith, payload_size c.args.connect.now, ap length c.as_bytes.ensures.value, c.text_size_if.ensures.value, c.binary_size_if.ensures.value)
