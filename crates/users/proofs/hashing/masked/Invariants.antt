use Rattle.std.proofs.Common.{bit_xor}
use Rattle.users.proofs.Bytes.{IsChangedBelow}
use Rattle.users.proofs.hashing.masked.Given as goal

abbrev pub invariant-bytes : goal.invariant-bytes
invariant-bytes l = IsChangedBelow (λ k byte. bit_xor byte l.mask) l.block l.masked l.at
