use Rattle.std.proofs.Common.{arith}
use Rattle.users.proofs.Bytes.{all_xor}
use Rattle.users.proofs.hashing.add.Goals as goal

pub returns : goal.returns
returns c = all_xor c.args.hash.now c.args.link.now c.bytes.hash c.bytes.at (omega arith) (omega arith) c.bytes.invariant
