-- What is left is what follows the same spaces and tabs.
use Rattle.std.proofs.Common.{◌≡◌, length}
use Rattle.users.specs.Cuts.{without_blanks}
use Rattle.users.proofs.cutting.without_blanks.Given as goal

abbrev pub invariant-loop-rest : goal.invariant-loop-rest
invariant-loop-rest l = without_blanks l.text ≡ without_blanks l.rest

abbrev pub decreases-loop-rest : goal.decreases-loop-rest
decreases-loop-rest l = length l.rest
