use Rattle.std.proofs.Common.{◌≡◌, length}
use Rattle.mqtt_fields.specs.Fields.{text_at}
use Rattle.mqtt_wire.specs.Bodies.{entries_within}
use Rattle.mqtt_wire.proofs.Entries.{with_front}
use Rattle.mqtt_wire.proofs.bodies.read_filters.Given as goal

-- the entries so far and those that are still read are all of them
abbrev pub invariant-loop-entries : goal.invariant-loop-entries
invariant-loop-entries l =
    with_front l.entries.items (entries_within text_at (length l.body) l.body) ≡ entries_within text_at (length l.initial.body) l.initial.body

abbrev pub decreases-loop-entries : goal.decreases-loop-entries
decreases-loop-entries l = length l.body
