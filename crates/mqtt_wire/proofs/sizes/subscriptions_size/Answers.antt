use Rattle.std.proofs.Common.{ap, length, arith}
use Rattle.mqtt_wire.proofs.WritingLaws.{entry_within}
use Rattle.mqtt_wire.proofs.sizes.subscriptions_size.Goals as goal

pub returns-then-size-gt-MAXIMUM_VARIABLE_BYTE_INTEGER : goal.returns-then-size-gt-MAXIMUM_VARIABLE_BYTE_INTEGER
returns-then-size-gt-MAXIMUM_VARIABLE_BYTE_INTEGER c =
    let within = entry_within c.args.entries.now c.loop-entry.entry-index c.entry-item.result c.loop-entry-test.true c.entry-item.is in
    omega (arith, within, c.loop-entry.invariant.so_far, ap length c.as_bytes.ensures.value, c.if-size-gt-MAXIMUM_VARIABLE_BYTE_INTEGER.true)
