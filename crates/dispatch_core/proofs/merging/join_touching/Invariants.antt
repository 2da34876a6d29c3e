-- The runs before `kept` are joined, and go on with those from `place` on.
use Rattle.std.proofs.Common.{◌≡◌, vec_capacity}
use Rattle.dispatch_core.proofs.Touching.{AreJoinedSoFar}
use Rattle.dispatch_core.proofs.merging.join_touching.Given as goal

abbrev pub invariant-loop-place : goal.invariant-loop-place
invariant-loop-place l = AreJoinedSoFar l.initial.runs.items l.runs.items l.kept l.place × (vec_capacity l.runs ≡ vec_capacity l.initial.runs)
