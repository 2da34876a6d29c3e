-- So many are left.
use Rattle.std.proofs.Common.{length}
use Rattle.threaded_broker.proofs.shares.+declare_all.Given as goal

abbrev pub decreases-declare_all : goal.decreases-declare_all
decreases-declare_all l = length l.shares.now
