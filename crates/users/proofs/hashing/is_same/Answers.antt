use Rattle.std.proofs.Common.{arith}
use Rattle.users.proofs.Bytes.{none_told, one_told, is_told}
use Rattle.users.proofs.hashing.is_same.Goals as goal

pub bytes-init : goal.bytes-init
bytes-init c = none_told c.args.hash.now c.args.other.now

pub bytes-preserved : goal.bytes-preserved
bytes-preserved c = one_told c.bytes.difference c.args.hash.now c.args.other.now c.bytes.at c.bytes.invariant

pub returns : goal.returns
returns c = is_told c.bytes.difference c.args.hash.now c.args.other.now c.bytes.at c.bytes.invariant (omega arith) (omega arith)
