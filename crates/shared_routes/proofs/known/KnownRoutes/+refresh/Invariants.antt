-- The slots that are left.
use Rattle.std.proofs.Common.{◌-◌, length}
use Rattle.shared_routes.proofs.known.KnownRoutes.+refresh.Given as goal

abbrev pub decreases-refresh : goal.decreases-refresh
decreases-refresh l = 8 - length l.self.now.shares
