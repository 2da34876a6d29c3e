-- So many are left.
use Rattle.std.proofs.Common.{vec_len}
use Rattle.broker_groups.proofs.ending.spend.Given as goal

abbrev pub decreases-held : goal.decreases-held
decreases-held l = vec_len l.held
