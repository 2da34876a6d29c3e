use Rattle.users.proofs.Bytes.{IsFilledBelow}
use Rattle.users.proofs.hashing.block_of.Given as goal

abbrev pub invariant-bytes : goal.invariant-bytes
invariant-bytes l = IsFilledBelow 128 l.bytes l.block l.at
