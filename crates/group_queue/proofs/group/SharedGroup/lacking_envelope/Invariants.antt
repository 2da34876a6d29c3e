-- None of what the places so far have out lacks an envelope.
use Rattle.std.proofs.Common.{All, take}
use Rattle.group_queue.proofs.Checks.{HasEnvelopes}
use Rattle.group_queue.proofs.group.SharedGroup.lacking_envelope.Given as goal

abbrev pub invariant-loop-place : goal.invariant-loop-place
invariant-loop-place g l = All (HasEnvelopes l.self l.places l.held) (take l.place-index l.places)
