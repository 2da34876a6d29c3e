use Rattle.mqtt_topic.proofs.SpellingLaws.{spelled_is}
use Rattle.mqtt_topic.proofs.laws.shares_are_spelled.Goals as goal

pub returns : goal.returns
returns c = spelled_is
