use Rattle.std.proofs.Common.{◌≡◌}
use Rattle.mqtt_topic.specs.Levels.{levels_of, levels_left, text_left}
use Rattle.mqtt_topic.specs.Names.{are_placed}
use Rattle.mqtt_topic.proofs.LevelLaws.{size_left}
use Rattle.mqtt_topic.proofs.filter.are_placed.Given as goal

-- what is left is in place as all of it is
abbrev pub invariant-loop-levels : goal.invariant-loop-levels
invariant-loop-levels l = are_placed (levels_left (text_left l.levels)) ≡ are_placed (levels_of l.text)

abbrev pub decreases-loop-levels : goal.decreases-loop-levels
decreases-loop-levels l = size_left (text_left l.levels)
