use Rattle.std.proofs.Common.{◌≡◌}
use Rattle.mqtt_topic.specs.Levels.{levels_of, levels_left, text_left, matches_levels}
use Rattle.mqtt_topic.proofs.LevelLaws.{size_left}
use Rattle.mqtt_topic.proofs.levels.match_levels.Given as goal

-- what is left of both matches as both do
abbrev pub invariant-loop-filters : goal.invariant-loop-filters
invariant-loop-filters l =
    matches_levels (levels_left (text_left l.filters)) (levels_left (text_left l.names)) ≡ matches_levels (levels_of l.filter) (levels_of l.name)

abbrev pub decreases-loop-filters : goal.decreases-loop-filters
decreases-loop-filters l = size_left (text_left l.filters)
