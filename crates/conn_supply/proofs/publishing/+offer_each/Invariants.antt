-- The slots that are left.
use Rattle.std.proofs.Common.{length}
use Rattle.conn_supply.proofs.publishing.+offer_each.Given as goal

abbrev pub decreases-offer_each : goal.decreases-offer_each
decreases-offer_each g l = length l.slots
