use Rattle.std.proofs.Common.{length}
use Rattle.shared_routes.proofs.known.+byte_of.Given as goal

abbrev pub decreases-byte_of : goal.decreases-byte_of
decreases-byte_of l = length l.seen.now
