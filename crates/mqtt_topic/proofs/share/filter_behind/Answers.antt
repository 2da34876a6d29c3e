use Rattle.std.proofs.Common.{ℕ, ◌+◌, drop, Option, sym, ap, ◌∙◌}
use Rattle.mqtt_topic.specs.Names.{share_cut}
use Rattle.mqtt_topic.proofs.LevelLaws.{to_the_end}
use Rattle.mqtt_topic.proofs.ShareLaws.{some_text, found_share, filter_passed}
use Rattle.mqtt_topic.proofs.share.filter_behind.Goals as goal

pub returns-clause-share : goal.returns-clause-share
returns-clause-share c = λ text e.
    let rest = c.args.rest.now in
    found_share text rest c.in-Some.at e (some_text _ (sym c.is_empty.ensures ∙ c.if-is_empty.false)) (sym c.has_wildcard.ensures ∙ c.if-has_wildcard.false)
    (filter_passed _ (drop (c.in-Some.at + 1) rest) (to_the_end (c.in-Some.at + 1) rest) c.in_ok-check_filter.ensures)
    ∙ ap (λ (o : Option ℕ). share_cut text c.args.rest.now o) c.in-Some.ensures.place
