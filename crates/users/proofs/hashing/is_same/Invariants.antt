use Rattle.users.proofs.Bytes.{Tells}
use Rattle.users.proofs.hashing.is_same.Given as goal

abbrev pub invariant-bytes : goal.invariant-bytes
invariant-bytes l = Tells l.difference l.hash l.other l.at
