use Rattle.std.proofs.Common.{◌+◌, ◌∷◌, take, ap, sym, ◌∙◌, List, ℕ}
use Rattle.mqtt_topic.specs.Levels.{levels_of}
use Rattle.mqtt_topic.proofs.LevelLaws.{no_separator, a_separator, to_the_end}
use Rattle.mqtt_topic.proofs.levels.split_level.Goals as goal

pub returns-in-None-clause-levels : goal.returns-in-None-clause-levels
returns-in-None-clause-levels c = no_separator c.args.text.now c.in-None.ensures.place

pub returns-in-Some-clause-levels : goal.returns-in-Some-clause-levels
returns-in-Some-clause-levels c =
    let text = c.args.text.now in
    a_separator text c.in-Some.at c.in-Some.ensures.place ∙ ap (λ (r : List ℕ). take c.in-Some.at c.args.text.now ∷ levels_of r) (sym (to_the_end (c.in-Some.at + 1) text))
