-- The jobs so far were counted.
use Rattle.std.proofs.Common.{◌≡◌}
use Rattle.local_group.specs.Tallies.{Tallies}
use Rattle.local_group.proofs.report.tally_port.Given as goal

abbrev pub invariant-loop-number : goal.invariant-loop-number
invariant-loop-number l =
    (Tallies l.state l.port 0 l.initial.tally → Tallies l.state l.port l.number l.tally) × (l.tally.accepted.items ≡ l.initial.tally.accepted.items)
