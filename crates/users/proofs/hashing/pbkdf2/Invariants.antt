use Rattle.std.proofs.Common.{◌≡◌}
use Rattle.users.proofs.Chain.{IsAt}
use Rattle.users.proofs.hashing.pbkdf2.Given as goal

abbrev pub invariant-iterations : goal.invariant-iterations
invariant-iterations l = record {
  made : IsAt l.password l.salt l.counter l.link l.hash;
  none : l.iterations ≡ 0 → l.counter ≡ 1;
}
