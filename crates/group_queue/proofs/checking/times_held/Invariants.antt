-- The envelopes so far are counted.
use Rattle.std.proofs.Common.{◌≡◌, ◌≤◌, take}
use Rattle.group_queue.specs.Ends.{times_held}
use Rattle.group_queue.proofs.checking.times_held.Given as goal

abbrev pub invariant-loop-envelope : goal.invariant-loop-envelope
invariant-loop-envelope l = (l.times ≡ times_held l.stamp (take l.envelope-index l.held)) × (l.times ≤ l.envelope-index)
