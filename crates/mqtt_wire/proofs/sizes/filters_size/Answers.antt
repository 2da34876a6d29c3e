use Rattle.std.proofs.Common.{ap, length, arith}
use Rattle.mqtt_wire.proofs.WritingLaws.{filter_within}
use Rattle.mqtt_wire.proofs.sizes.filters_size.Goals as goal

pub returns-then-size-gt-MAXIMUM_VARIABLE_BYTE_INTEGER : goal.returns-then-size-gt-MAXIMUM_VARIABLE_BYTE_INTEGER
returns-then-size-gt-MAXIMUM_VARIABLE_BYTE_INTEGER c =
    let within = filter_within c.args.filters.now c.loop-filter.filter-index c.filter-item.result c.loop-filter-test.true c.filter-item.is in
    omega (arith, within, c.loop-filter.invariant.so_far, ap length c.as_bytes.ensures.value, c.if-size-gt-MAXIMUM_VARIABLE_BYTE_INTEGER.true)
