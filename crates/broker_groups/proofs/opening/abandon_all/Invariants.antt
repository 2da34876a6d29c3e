-- So many are left.
use Rattle.std.proofs.Common.{◌≡◌, ◌+◌, vec_len}
use Rattle.broker_groups.proofs.opening.abandon_all.Given as goal

abbrev pub invariant-loop : goal.invariant-loop
invariant-loop g l = vec_len l.groups + l.counter ≡ l.end
