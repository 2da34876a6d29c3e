use Rattle.std.proofs.Common.{◌≤◌, List, ◌∙◌, ap, length, arith}
use Rattle.std.proofs.lemmas.List.{length-map}
use Rattle.mqtt_topic.specs.Levels.{matches}
use Rattle.mqtt_topic.specs.Names.{Share}
use Rattle.mqtt_topic.specs.Routes.{slots_in, places_of, routed}
use Rattle.mqtt_topic.proofs.RouteLaws.{places_below}
use Rattle.mqtt_topic.proofs.SlotLaws.{slots_of_byte}
use Rattle.mqtt_topic.proofs.routes.Routes.matching.Goals as goal

pub returns-clause-value : goal.returns-clause-value
returns-clause-value c =
    let name = c.args.name.now in
    let shares = c.as_slice.result.now in
    c.from_byte.ensures ∙ ap (slots_in 8 0) c.byte_of.ensures.value
    ∙ slots_of_byte 8 0 (routed name shares) (omega (arith, length-map c.as_slice.result.now (λ (share : Share). matches share.filter c.args.name.now), ap length c.as_slice.ensures.value, c.self.invariant.0))
    ∙ ap (λ (s : List Share). places_of 0 (routed c.args.name.now s)) (c.as_slice.ensures.value ∙ c.self.view_is)

pub returns-clause-small : goal.returns-clause-small
returns-clause-small c =
    let few : length (routed c.args.name.now c.args.self.now) ≤ 8 =
    omega (arith, length-map c.args.self.now (λ (share : Share). matches share.filter c.args.name.now), ap length c.self.view_is, c.self.invariant.0) in
    rw (returns-clause-value c) (λ k d. places_below 0 (routed c.args.name.now c.args.self.now) 8 (omega (arith, few)) k d)
