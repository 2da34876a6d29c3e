-- The properties of a PUBLISH that has none, and those that stand apart from it.
use Rattle.std.specs.Prelude.{[], Option, Some, None}
use Rattle.mqtt_packet.specs.declared.packet_properties.PublishProperties.{PublishProperties}

abbrev pub no_properties : PublishProperties
no_properties = record {
  payload_format_indicator = None;
  content_type = None;
  response_topic = None;
  correlation_data = None;
  topic_alias = None;
  user_properties = [];
}

abbrev pub listed_or_none : Option PublishProperties → PublishProperties
listed_or_none None = no_properties
listed_or_none (Some properties) = properties
