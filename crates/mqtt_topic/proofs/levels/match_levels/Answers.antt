use Rattle.std.proofs.Common.{List, ℕ, Option, sym, ap, ◌∙◌}
use Rattle.std.specs.Option.{is_some}
use Rattle.std.specs.Borrow.{Bor}
use Rattle.mqtt_topic.specs.Levels.{levels_left, text_left, matches_levels}
use Rattle.mqtt_topic.proofs.LevelLaws.{at_the_end, turned}
use Rattle.mqtt_topic.proofs.levels.match_levels.Goals as goal

pub returns : goal.returns
returns c =
    turned (is_some c.loop-filters.names) c.is_none.result c.is_none.ensures ∙ sym (at_the_end c.loop-filters.names)
    ∙ ap (λ (f : Option (Bor (List ℕ))). matches_levels (levels_left (text_left f)) (levels_left (text_left c.loop-filters.names))) (sym c.in_default.is)
    ∙ c.loop-filters.invariant
