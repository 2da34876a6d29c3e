-- The slots that are left.
use Rattle.std.proofs.Common.{◌-◌, length}
use Rattle.shared_routes.proofs.known.KnownRoutes.+bind_behind.Given as goal

abbrev pub decreases-bind_behind : goal.decreases-bind_behind
decreases-bind_behind l = 8 - length l.self.now.shares
