use Rattle.std.proofs.Common.{◌≡◌, ◌+◌, ◌≤◌, length, sym, ap, ◌∙◌, arith}
use Rattle.mqtt_fields.specs.declared.property.Property.TheVariants.{MessageExpiryInterval, SubscriptionIdentifier}
use Rattle.mqtt_fields.specs.PropertyLists.{optional, publish_list}
use Rattle.mqtt_fields.specs.Sizes.{greatest, rare_length}
use Rattle.mqtt_fields.proofs.PropertySizeLaws.{saturated, whole, publish_length}
use Rattle.mqtt_fields.proofs.property_sizes.publish_list_size.Goals as goal

pub returns-in-Some : goal.returns-in-Some
returns-in-Some c =
    let p = c.args.publish.now in
    let expiry : c.u32_size.result ≡ length (optional MessageExpiryInterval p.message_expiry_interval) = c.u32_size.ensures.value 0x02 in
    let identifier : c.subscription_identifier_size.result ≡ length (optional SubscriptionIdentifier p.subscription_identifier) = c.subscription_identifier_size.ensures.value in
    let apart : rare_length c.in-Some.properties.now ≡ rare_length p.properties = ap rare_length c.in-Some.ensures in
    saturated c.saturating_add.result c.rare_size.result (c.u32_size.result + c.subscription_identifier_size.result) (rare_length c.in-Some.properties.now) (length (publish_list p)) c.saturating_add.ensures c.rare_size.ensures
    (omega (arith, publish_length p, expiry, identifier, apart))

pub returns-in-None : goal.returns-in-None
returns-in-None c =
    let p = c.args.publish.now in
    let expiry : c.u32_size.result ≡ length (optional MessageExpiryInterval p.message_expiry_interval) = c.u32_size.ensures.value 0x02 in
    let identifier : c.subscription_identifier_size.result ≡ length (optional SubscriptionIdentifier p.subscription_identifier) = c.subscription_identifier_size.ensures.value in
    let apart : rare_length p.properties ≡ 0 = ap rare_length c.in-None.ensures in
    let all : length (publish_list p) ≡ c.u32_size.result + c.subscription_identifier_size.result = omega (arith, publish_length p, expiry, identifier, apart) in
    let small : length (publish_list p) ≤ greatest = omega (arith, all, c.u32_size.ensures.small, c.subscription_identifier_size.ensures.small) in
    sym all ∙ whole (length (publish_list p)) small
