use Rattle.mqtt_topic.proofs.MatchLaws.{one_level_matches}
use Rattle.mqtt_topic.proofs.laws.single_level_matches_one_level.Goals as goal

pub returns : goal.returns
returns c = one_level_matches
