use Rattle.std.proofs.Common.{◌≡◌, ◌+◌, length, arith}
use Rattle.std.specs.Prelude.{min}
use Rattle.mqtt_fields.specs.declared.property.Property.TheVariants.{ContentType, CorrelationData, PayloadFormatIndicator, ResponseTopic, TopicAlias}
use Rattle.mqtt_fields.specs.PropertyLists.{optional, user_bytes}
use Rattle.mqtt_fields.specs.Sizes.{greatest, rare_length}
use Rattle.mqtt_fields.proofs.PropertySizeLaws.{saturated}
use Rattle.mqtt_fields.proofs.property_sizes.rare_size.Goals as goal

pub returns : goal.returns
returns c =
    let p = c.args.properties.now in
    let format : c.byte_size.result ≡ length (optional PayloadFormatIndicator p.payload_format_indicator) = c.byte_size.ensures.value 0x01 in
    let alias : c.u16_size.result ≡ length (optional TopicAlias p.topic_alias) = c.u16_size.ensures.value 0x23 in
    let content : c.text_size.result ≡ length (optional ContentType p.content_type) = c.text_size.ensures.value 0x03 in
    let response : c.text_size-2.result ≡ length (optional ResponseTopic p.response_topic) = c.text_size-2.ensures.value 0x08 in
    let correlation : c.binary_size.result ≡ length (optional CorrelationData p.correlation_data) = c.binary_size.ensures.value 0x09 in
    let users : c.user_properties_size.result ≡ min (length (user_bytes p.user_properties)) greatest = rw (← c.as_slice.ensures) c.user_properties_size.ensures in
    saturated c.saturating_add.result c.user_properties_size.result (c.byte_size.result + c.u16_size.result + (c.text_size.result + c.text_size-2.result + c.binary_size.result)) (length (user_bytes p.user_properties)) (rare_length p) c.saturating_add.ensures users
    (omega (arith, format, alias, content, response, correlation))
