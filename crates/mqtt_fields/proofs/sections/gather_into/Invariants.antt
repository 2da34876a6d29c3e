use Rattle.std.proofs.Common.{◌≡◌, length}
use Rattle.mqtt_fields.specs.Sections.{gathered_at}
use Rattle.mqtt_fields.proofs.sections.gather_into.Given as goal

-- those so far and those that are still read are all of them
abbrev pub invariant-loop-section : goal.invariant-loop-section
invariant-loop-section l =
    gathered_at l.section l.properties (length l.list) l.list ≡ gathered_at l.initial.section l.initial.properties (length l.initial.list) l.initial.list

abbrev pub decreases-loop-section : goal.decreases-loop-section
decreases-loop-section l = length l.list
