-- The topic of a PUBLISH that is offered to groups is a topic name.
use Rattle.std.proofs.Common.{◌≡◌, ℕ, Bool, true, false, cond, List, [], ◌∷◌, length, Option, Some, None, Ok, refl, arith}
use Rattle.std.specs.Prelude.{◌==◌, is_some}
use Rattle.std.specs.List.{list_any}
use Rattle.mqtt_packet.specs.declared.packet.Delivery.{Delivery}
use Rattle.mqtt_packet.specs.declared.packet.Delivery.TheVariants.{AtMostOnce, AtLeastOnce, ExactlyOnce}
use Rattle.mqtt_packet.specs.declared.packet.Publish.{Publish}
use Rattle.mqtt_topic.specs.Levels.{is_wildcard}
use Rattle.mqtt_topic.specs.Names.{name_of}
use Rattle.conn_rules.specs.declared.publishing.PublishAnswer.TheVariants.{Offer}
use Rattle.conn_rules.specs.Publishing.{closing_code, delivery_answer, publish_answer}
use Rattle.conn_supply.proofs.Offered.{none_closes}

-- a text with a character and without wildcards
named_by : (topic : List ℕ) (wild : Bool) → list_any is_wildcard topic ≡ wild
    → (cond {A = Option ℕ} (length topic == 0) (Some 0x82) (cond {A = Option ℕ} wild (Some 0x81) None)) ≡ None → name_of topic ≡ Ok topic
unfolding name_of
named_by [] wild is none = grind arith
named_by (byte ∷ bytes) true is none = grind arith
named_by (byte ∷ bytes) false is none = rw is refl

named_if : (retain alias : Bool) (topic : List ℕ)
    → cond {A = Option ℕ} retain (Some 0x9A) (cond {A = Option ℕ} alias (Some 0x94) (cond {A = Option ℕ} (length topic == 0) (Some 0x82) (cond {A = Option ℕ} (list_any is_wildcard topic) (Some 0x81) None))) ≡ None
    → name_of topic ≡ Ok topic
named_if true alias topic none = grind arith
named_if false true topic none = grind arith
named_if false false topic none = named_by topic _ refl none

named_for : (delivery : Delivery) (wanted : ℕ) (publish : Publish) → delivery_answer delivery publish ≡ Offer wanted → name_of publish.topic ≡ Ok publish.topic
named_for AtMostOnce wanted publish is = grind arith
named_for (AtLeastOnce identifier) wanted publish is =
    named_if publish.retain (is_some publish.properties.topic_alias) publish.topic (none_closes (closing_code publish) identifier wanted is)
named_for (ExactlyOnce identifier) wanted publish is = grind arith

pub offered_is_named : (wanted : ℕ) (publish : Publish) → publish_answer publish ≡ Offer wanted → name_of publish.topic ≡ Ok publish.topic
offered_is_named wanted publish is = named_for publish.delivery wanted publish is
