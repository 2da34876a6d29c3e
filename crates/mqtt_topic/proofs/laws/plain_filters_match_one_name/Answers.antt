use Rattle.mqtt_topic.proofs.MatchLaws.{one_name}
use Rattle.mqtt_topic.proofs.laws.plain_filters_match_one_name.Goals as goal

pub returns : goal.returns
returns c = one_name
