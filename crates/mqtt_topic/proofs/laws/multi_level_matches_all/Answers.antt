use Rattle.mqtt_topic.proofs.MatchLaws.{all_matches}
use Rattle.mqtt_topic.proofs.laws.multi_level_matches_all.Goals as goal

pub returns : goal.returns
returns c = all_matches
