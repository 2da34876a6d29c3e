-- The slots that are left.
use Rattle.std.proofs.Common.{◌-◌, length}
use Rattle.shared_routes.proofs.known.KnownRoutes.+publish_from.Given as goal

abbrev pub decreases-publish_from : goal.decreases-publish_from
decreases-publish_from l = length l.self.now.shares - l.slot
