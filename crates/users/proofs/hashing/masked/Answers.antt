use Rattle.std.proofs.Common.{arith}
use Rattle.users.proofs.Bytes.{all_masked}
use Rattle.users.proofs.hashing.masked.Goals as goal

pub returns : goal.returns
returns c = all_masked c.args.mask c.args.block.now c.bytes.masked c.bytes.at (omega arith) c.bytes.invariant
