-- The greatest number of a `usize`, and how many bytes the properties take that stand apart from a PUBLISH.
use Rattle.std.specs.Prelude.{ℕ, ◌+◌, length}
use Rattle.mqtt_packet.specs.declared.packet_properties.PublishProperties.{PublishProperties}
use Rattle.mqtt_fields.specs.declared.property.Property.TheVariants.{PayloadFormatIndicator, ContentType, ResponseTopic, CorrelationData, TopicAlias}
use Rattle.mqtt_fields.specs.PropertyLists.{optional, user_bytes}

abbrev pub greatest : ℕ
greatest = 18446744073709551615

-- all that a PUBLISH has but its Message Expiry Interval and its Subscription Identifier
abbrev pub rare_length : PublishProperties → ℕ
rare_length p =
    length (optional PayloadFormatIndicator p.payload_format_indicator) + length (optional TopicAlias p.topic_alias) + length (optional ContentType p.content_type)
    + length (optional ResponseTopic p.response_topic) + length (optional CorrelationData p.correlation_data) + length (user_bytes p.user_properties)
