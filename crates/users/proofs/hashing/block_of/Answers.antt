use Rattle.std.proofs.Common.{arith}
use Rattle.users.proofs.Bytes.{none_filled, all_filled}
use Rattle.users.proofs.hashing.block_of.Goals as goal

pub bytes-init : goal.bytes-init
bytes-init c = none_filled 128 c.args.bytes.now

pub returns : goal.returns
returns c = all_filled 128 c.args.bytes.now c.bytes.block c.bytes.at (omega arith) (omega arith) c.bytes.invariant
