use Rattle.std.proofs.Common.{arith, inl}
use Rattle.mqtt_topic.proofs.slots.Slots.len.Goals as goal

pub count-requires-clause-fits : goal.count-requires-clause-fits
count-requires-clause-fits c = inl (omega (arith, c.iter.ensures.few))
