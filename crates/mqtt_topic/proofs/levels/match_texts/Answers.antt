use Rattle.std.proofs.Common.{sym, ◌∙◌}
use Rattle.mqtt_topic.proofs.MatchLaws.{very_name}
use Rattle.mqtt_topic.proofs.levels.match_texts.Goals as goal

pub returns-then-eq : goal.returns-then-eq
returns-then-eq c = c.if-eq.true ∙ sym (very_name c.args.filter.now c.args.name.now (sym c.if-eq.ensures))
