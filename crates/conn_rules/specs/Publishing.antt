-- What becomes of a PUBLISH before any group is asked, and the Reason Code once they were (sections 3.3 and 3.4).
use Rattle.std.specs.Prelude.{ℕ, nat_lt, ◌==◌, if◌then◌else◌, length, Option, Some, None, is_some}
use Rattle.std.specs.List.{list_any}
use Rattle.mqtt_packet.specs.declared.packet.Publish.{Publish}
use Rattle.mqtt_packet.specs.declared.packet.Delivery.{Delivery}
use Rattle.mqtt_packet.specs.declared.packet.Delivery.TheVariants.{AtMostOnce, AtLeastOnce, ExactlyOnce}
use Rattle.mqtt_packet.specs.declared.packet_properties.PublishProperties.{PublishProperties}
use Rattle.mqtt_topic.specs.Levels.{is_wildcard}
use Rattle.group_jobs.specs.declared.message.Message.{Message}
use Rattle.conn_rules.specs.Expiring.{expiry_from}
use Rattle.conn_rules.specs.declared.publishing.PublishAnswer.{PublishAnswer}
use Rattle.conn_rules.specs.declared.publishing.PublishAnswer.TheVariants.{Close, Offer}

-- the Reason Code with which a PUBLISH of QoS 1 closes the connection: RETAIN 9A (3.2.2.3.5), a Topic Alias 94 (3.3.2.3.4; for 0
-- too, profile), an empty topic 82 (3.3.2.1), a wildcard in it 81 (3.3.2.1; the code is the profile's)
abbrev pub closing_code : Publish → Option ℕ
closing_code publish =
    if publish.retain then Some 0x9A
    else (if is_some publish.properties.topic_alias then Some 0x94
    else (if length publish.topic == 0 then Some 0x82
    else (if list_any is_wildcard publish.topic then Some 0x81 else None)))

abbrev pub identified_answer : Option ℕ → ℕ → PublishAnswer
identified_answer (Some code) identifier = Close code
identified_answer None identifier = Offer identifier

-- 3.3.4: a PUBLISH of QoS 1 is acknowledged; QoS 2 is not supported (3.2.2.3.4), and QoS 0 is not served (profile)
abbrev pub delivery_answer : Delivery → Publish → PublishAnswer
delivery_answer (AtLeastOnce identifier) publish = identified_answer (closing_code publish) identifier
delivery_answer AtMostOnce publish = Close 0x83
delivery_answer (ExactlyOnce identifier) publish = Close 0x9B

abbrev pub publish_answer : Publish → PublishAnswer
publish_answer publish = delivery_answer publish.delivery publish

-- 3.4.2.1: 10 where no group matched, 97 where one that matched did not take the message, else 00
abbrev pub puback_code : ℕ → ℕ → ℕ
puback_code matched taken = if matched == 0 then 0x10 else (if nat_lt taken matched then 0x97 else 0)

-- of the properties that stand apart from a PUBLISH, those that go with its message: all but the alias of its topic (3.3.2.3)
abbrev pub forwarded : PublishProperties → PublishProperties
forwarded properties = record properties { topic_alias = None }

-- the message of a PUBLISH that came at this moment: its topic, when it expires, the properties that go with it, and its payload (3.3.2.3)
abbrev pub message_of : ℕ → Publish → Message
message_of now publish = record {
  topic = publish.topic;
  expiry = expiry_from now publish.message_expiry_interval;
  properties = forwarded publish.properties;
  payload = publish.payload;
}
