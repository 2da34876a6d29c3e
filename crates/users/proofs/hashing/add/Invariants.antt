use Rattle.std.proofs.Common.{get_or, bit_xor}
use Rattle.users.proofs.Bytes.{IsChangedBelow}
use Rattle.users.proofs.hashing.add.Given as goal

abbrev pub invariant-bytes : goal.invariant-bytes
invariant-bytes l = IsChangedBelow (λ k byte. bit_xor byte (get_or l.link k 0)) l.fn.hash l.hash l.at
