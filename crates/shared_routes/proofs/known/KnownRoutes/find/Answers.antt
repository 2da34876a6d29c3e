-- The first share of that text.
use Rattle.std.proofs.Common.{◌≡◌, ◌∙◌, rules, sym, map}
use Rattle.std.specs.Prelude.{bytes_eq}
use Rattle.mqtt_topic.specs.Names.{Share}
use Rattle.mqtt_topic.specs.Routes.{slot_of}
use Rattle.shared_routes.proofs.Shares.{position_of_map}
use Rattle.shared_routes.proofs.known.KnownRoutes.find.Goals as goal

pub returns-in_err-slot-clause-value : goal.returns-in_err-slot-clause-value
returns-in_err-slot-clause-value c =
    let found : c.place_of.result ≡ slot_of c.text.result.now (map (λ share. share.now) c.as_slice.result.now) =
    c.place_of.ensures ∙ sym (position_of_map (λ (share : Share). bytes_eq share.text c.text.result.now) (λ one. one.now) c.as_slice.result.now) in
    search (rules, found)

pub returns-clause-value : goal.returns-clause-value
returns-clause-value c =
    let found : c.place_of.result ≡ slot_of c.text.result.now (map (λ share. share.now) c.as_slice.result.now) =
    c.place_of.ensures ∙ sym (position_of_map (λ (share : Share). bytes_eq share.text c.text.result.now) (λ one. one.now) c.as_slice.result.now) in
    search (rules, found)
