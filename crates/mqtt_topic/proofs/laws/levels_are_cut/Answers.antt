use Rattle.mqtt_topic.proofs.SpellingLaws.{cut_is}
use Rattle.mqtt_topic.proofs.laws.levels_are_cut.Goals as goal

pub returns : goal.returns
returns c = cut_is
