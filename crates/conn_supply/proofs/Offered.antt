-- A PUBLISH that is offered to groups has no Topic Alias.
use Rattle.std.proofs.Common.{◌≡◌, ℕ, Bool, true, false, cond, Option, Some, None, refl, arith}
use Rattle.std.specs.Prelude.{is_some}
use Rattle.mqtt_packet.specs.declared.packet.Delivery.{Delivery}
use Rattle.mqtt_packet.specs.declared.packet.Delivery.TheVariants.{AtMostOnce, AtLeastOnce, ExactlyOnce}
use Rattle.mqtt_packet.specs.declared.packet.Publish.{Publish}
use Rattle.conn_rules.specs.declared.publishing.PublishAnswer.TheVariants.{Offer}
use Rattle.conn_rules.specs.Publishing.{closing_code, identified_answer, delivery_answer, publish_answer}

-- what is not there
absent : (number : Option ℕ) → is_some number ≡ false → number ≡ None
absent (Some n) none = grind arith
absent None none = refl

no_alias_if : (retain alias : Bool) (others : Option ℕ) → cond {A = Option ℕ} retain (Some 0x9A) (cond {A = Option ℕ} alias (Some 0x94) others) ≡ None → alias ≡ false
no_alias_if true alias others none = grind arith
no_alias_if false true others none = grind arith
no_alias_if false false others none = refl

-- no code closes the connection
pub none_closes : (code : Option ℕ) (identifier wanted : ℕ) → identified_answer code identifier ≡ Offer wanted → code ≡ None
none_closes (Some code) identifier wanted is = grind arith
none_closes None identifier wanted is = refl

without_alias : (delivery : Delivery) (wanted : ℕ) (publish : Publish) → delivery_answer delivery publish ≡ Offer wanted → publish.properties.topic_alias ≡ None
without_alias AtMostOnce wanted publish is = grind arith
without_alias (ExactlyOnce identifier) wanted publish is = grind arith
without_alias (AtLeastOnce identifier) wanted publish is =
    absent publish.properties.topic_alias (no_alias_if publish.retain (is_some publish.properties.topic_alias) _ (none_closes (closing_code publish) identifier wanted is))

pub offered_has_no_alias : (wanted : ℕ) (publish : Publish) → publish_answer publish ≡ Offer wanted → publish.properties.topic_alias ≡ None
offered_has_no_alias wanted publish is = without_alias publish.delivery wanted publish is
