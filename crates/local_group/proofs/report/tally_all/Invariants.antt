-- The ports so far were counted.
use Rattle.local_group.specs.Tallies.{Tallies, AreAccepted}
use Rattle.local_group.proofs.report.tally_all.Given as goal

abbrev pub invariant-loop-port : goal.invariant-loop-port
invariant-loop-port l = Tallies l.state l.port 0 l.tally × AreAccepted l.state l.port l.tally.accepted.items
