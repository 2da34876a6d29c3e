use Rattle.std.proofs.Common.{arith}
use Rattle.std.proofs.lemmas.Grind.{common_steps}
use Rattle.users.specs.Hashing.{key_block}
use Rattle.users.proofs.hashing.key_block.Goals as goal

pub returns-then-key-gt128 : goal.returns-then-key-gt128
unfolding key_block
returns-then-key-gt128 c = grind (arith, common_steps)

pub returns-else-key-gt128 : goal.returns-else-key-gt128
unfolding key_block
returns-else-key-gt128 c = grind (arith, common_steps)
