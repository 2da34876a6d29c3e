-- So many are left.
use Rattle.std.proofs.Common.{◌≡◌, ◌+◌, vec_len}
use Rattle.group_queue.proofs.finish.spend.Given as goal

abbrev pub invariant-loop : goal.invariant-loop
invariant-loop l = vec_len l.held + l.counter ≡ l.end
