-- The byte of a set is that set.
use Rattle.std.proofs.Common.{◌≡◌, ◌≤◌, ◌∙◌, ap, length, map, arith}
use Rattle.std.proofs.lemmas.List.{length-map}
use Rattle.mqtt_topic.specs.Levels.{matches}
use Rattle.mqtt_topic.specs.Names.{Share}
use Rattle.mqtt_topic.specs.Routes.{byte_of, slots_in, routed}
use Rattle.mqtt_topic.proofs.RouteLaws.{places_below}
use Rattle.mqtt_topic.proofs.SlotLaws.{slots_of_byte}
use Rattle.shared_routes.specs.Known.{KnownState}
use Rattle.shared_routes.proofs.known.KnownRoutes.matching.Goals as goal

few : (c : goal.After-from_byte) → length (routed c.args.name.now c.args.self.now.shares) ≤ 8
few c =
    omega (
      arith,
      length-map c.args.self.now.shares (λ (share : Share). matches share.filter c.args.name.now),
      length-map c.self.inside.seen.items (λ share. share.now),
      ap (λ (known : KnownState). length known.shares) c.self.view_is,
      c.self.invariant.2,
    )

pub returns-clause-value : goal.returns-clause-value
returns-clause-value c =
    let same : c.byte_of.result ≡ byte_of (routed c.args.name.now c.args.self.now.shares) =
    c.byte_of.ensures.value ∙ ap (λ seen. byte_of (routed c.args.name.now (map (λ share. share.now) seen))) c.as_slice.ensures.value
    ∙ ap (λ (known : KnownState). byte_of (routed c.args.name.now known.shares)) c.self.view_is in
    c.from_byte.ensures ∙ ap (slots_in 8 0) same ∙ slots_of_byte 8 0 (routed c.args.name.now c.args.self.now.shares) (few c)

pub returns-clause-small : goal.returns-clause-small
returns-clause-small c =
    rw (returns-clause-value c) (λ k d. places_below 0 (routed c.args.name.now c.args.self.now.shares) 8 (omega (arith, few c)) k d)
