use Rattle.std.proofs.Common.{sym}
use Rattle.mqtt_topic.proofs.LevelLaws.{not_last}
use Rattle.mqtt_topic.proofs.levels.is_multi_level.Goals as goal

pub returns-in-Some : goal.returns-in-Some
returns-in-Some c = rw c.in-Some.is (sym (not_last c.args.level.now c.in-Some.field-0.now))
