use Rattle.mqtt_topic.proofs.MatchLaws.{parent_matches}
use Rattle.mqtt_topic.proofs.laws.multi_level_matches_the_parent.Goals as goal

pub returns : goal.returns
returns c = parent_matches
