use Rattle.std.proofs.Common.{length}
use Rattle.mqtt_topic.proofs.routes.+byte_of.Given as goal

abbrev pub decreases-byte_of : goal.decreases-byte_of
decreases-byte_of l = length l.shares.now
