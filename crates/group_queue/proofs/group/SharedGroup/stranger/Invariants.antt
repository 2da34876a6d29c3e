-- None of the envelopes so far is a stranger.
use Rattle.std.proofs.Common.{All, take}
use Rattle.group_queue.proofs.Checks.{IsKnown}
use Rattle.group_queue.proofs.group.SharedGroup.stranger.Given as goal

abbrev pub invariant-loop-envelope : goal.invariant-loop-envelope
invariant-loop-envelope g l = All (IsKnown l.self l.places l.held) (take l.envelope-index l.held)
