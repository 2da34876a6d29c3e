use Rattle.std.proofs.Common.{◌≡◌, ◌-◌, ◌≤◌}
use Rattle.mqtt_topic.specs.Routes.{slots_in}
use Rattle.mqtt_topic.proofs.slots.SlotIterIterator.next.Given as goal

-- no slot that was passed is in the set
abbrev pub invariant-loop-self : goal.invariant-loop-self
invariant-loop-self l = record {
  within : l.self-inside.slot ≤ 8;
  same : slots_in (8 - l.self-inside.slot) l.self-inside.slot l.self-inside.byte ≡ l.fn.self;
}

abbrev pub decreases-loop-self : goal.decreases-loop-self
decreases-loop-self l = 8 - l.self-inside.slot
