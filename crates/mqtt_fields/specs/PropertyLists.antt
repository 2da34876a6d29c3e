-- The properties of each packet: which of a section's they are, and the one order in which they are written.
use Rattle.std.specs.Prelude.{◌≡◌, ℕ, List, [], ◌++◌, Option, Some, None, Result, Ok, Err}
use Rattle.std.specs.List.{flat_map}
use Rattle.mqtt_fields.specs.declared.fault.StreamFault.{StreamFault}
use Rattle.mqtt_fields.specs.declared.fault.StreamFault.TheVariants.{Protocol}
use Rattle.mqtt_fields.specs.declared.property.Property.{Property}
use Rattle.mqtt_fields.specs.declared.property.Property.TheVariants.{PayloadFormatIndicator, MessageExpiryInterval, ContentType, ResponseTopic, CorrelationData, SubscriptionIdentifier, SessionExpiryInterval, AuthenticationMethod, AuthenticationData, RequestProblemInformation, RequestResponseInformation, ReasonString, ReceiveMaximum, TopicAliasMaximum, TopicAlias, UserProperty, MaximumPacketSize}
use Rattle.mqtt_fields.specs.declared.properties.Properties.{Properties}
use Rattle.mqtt_packet.specs.declared.user_properties.UserProperty.{UserProperty as Pair}
use Rattle.mqtt_packet.specs.declared.packet.Publish.{Publish}
use Rattle.mqtt_packet.specs.declared.packet_properties.Authentication.{Authentication}
use Rattle.mqtt_packet.specs.declared.packet_properties.ConnectProperties.{ConnectProperties}
use Rattle.mqtt_packet.specs.declared.packet_properties.PublishProperties.{PublishProperties}
use Rattle.mqtt_packet.specs.declared.packet_properties.PubackProperties.{PubackProperties}
use Rattle.mqtt_packet.specs.declared.packet_properties.SubscribeProperties.{SubscribeProperties}
use Rattle.mqtt_packet.specs.declared.packet_properties.UnsubscribeProperties.{UnsubscribeProperties}
use Rattle.mqtt_packet.specs.declared.packet_properties.DisconnectProperties.{DisconnectProperties}
use Rattle.mqtt_fields.specs.declared.fault.Fault.{Fault}
use Rattle.mqtt_fields.specs.Faults.{Fails}
use Rattle.mqtt_fields.specs.Sections.{property_bytes}

-- a field that may be left out
abbrev pub bytes_if : {A : Type 0} → (A → List ℕ) → Option A → List ℕ
bytes_if field None = []
bytes_if field (Some value) = field value

-- a property that may be left out
abbrev pub optional : {A : Type 0} → (A → Property) → Option A → List ℕ
optional make value = bytes_if (λ x. property_bytes (make x)) value

abbrev pub user_bytes : List Pair → List ℕ
user_bytes pairs = flat_map (λ pair. property_bytes (UserProperty pair)) pairs

-- 3.1.2.11.10: authentication data stands only beside a method
abbrev pub authentication_of : Option (List ℕ) → Option (List ℕ) → Result (Option Authentication) StreamFault
authentication_of None None = Ok None
authentication_of None (Some bytes) = Err Protocol
authentication_of (Some method) bytes = Ok (Some (record { method = method; authentication_data = bytes }))

-- 3.1.2.11 CONNECT
abbrev pub connect_with : Properties → Option Authentication → ConnectProperties
connect_with all authentication = record {
  session_expiry_interval = all.session_expiry_interval;
  receive_maximum = all.receive_maximum;
  maximum_packet_size = all.maximum_packet_size;
  topic_alias_maximum = all.topic_alias_maximum;
  request_response_information = all.request_response_information;
  request_problem_information = all.request_problem_information;
  authentication = authentication;
  user_properties = all.user_properties;
}

abbrev pub connect_from : Properties → Result (Option Authentication) StreamFault → Result ConnectProperties StreamFault
connect_from all (Ok authentication) = Ok (connect_with all authentication)
connect_from all (Err fault) = Err fault

abbrev pub connect_of : Properties → Result ConnectProperties StreamFault
connect_of all = connect_from all (authentication_of all.authentication_method all.authentication_data)

abbrev pub authentication_bytes : Option Authentication → List ℕ
authentication_bytes None = []
authentication_bytes (Some a) = property_bytes (AuthenticationMethod a.method) ++ optional AuthenticationData a.authentication_data

abbrev pub connect_list : ConnectProperties → List ℕ
connect_list p =
    optional SessionExpiryInterval p.session_expiry_interval
    ++ (authentication_bytes p.authentication
    ++ (optional RequestProblemInformation p.request_problem_information
    ++ (optional RequestResponseInformation p.request_response_information
    ++ (optional ReceiveMaximum p.receive_maximum
    ++ (optional TopicAliasMaximum p.topic_alias_maximum
    ++ (user_bytes p.user_properties
    ++ optional MaximumPacketSize p.maximum_packet_size))))))

-- 3.3.2.3 PUBLISH: all but the Message Expiry Interval, which is a field of the packet's own
abbrev pub publish_of : Properties → PublishProperties
publish_of all = record {
  payload_format_indicator = all.payload_format_indicator;
  content_type = all.content_type;
  response_topic = all.response_topic;
  correlation_data = all.correlation_data;
  topic_alias = all.topic_alias;
  user_properties = all.user_properties;
}

-- what taking them gives, where they are taken with no list of all properties
abbrev pub GivesPublish : Result (Option ℕ × PublishProperties) Fault → List ℕ → Result (Properties × List ℕ) StreamFault → Type 0
GivesPublish (Ok found) rest field = (all : Properties) × (found ≡ (all.message_expiry_interval, publish_of all)) × (field ≡ Ok (all, rest))
GivesPublish (Err e) rest field = Fails e field

abbrev pub publish_list : Publish → List ℕ
publish_list p =
    optional PayloadFormatIndicator p.properties.payload_format_indicator
    ++ (optional MessageExpiryInterval p.message_expiry_interval
    ++ (optional ContentType p.properties.content_type
    ++ (optional ResponseTopic p.properties.response_topic
    ++ (optional CorrelationData p.properties.correlation_data
    ++ (optional SubscriptionIdentifier p.subscription_identifier
    ++ (optional TopicAlias p.properties.topic_alias
    ++ user_bytes p.properties.user_properties))))))

-- 3.4.2.2 PUBACK
abbrev pub puback_of : Properties → PubackProperties
puback_of all = record {
  reason_string = all.reason_string;
  user_properties = all.user_properties;
}

abbrev pub puback_list : PubackProperties → List ℕ
puback_list p = optional ReasonString p.reason_string ++ (user_bytes p.user_properties)

-- 3.8.2.1 SUBSCRIBE
abbrev pub subscribe_of : Properties → SubscribeProperties
subscribe_of all = record {
  subscription_identifier = all.subscription_identifier;
  user_properties = all.user_properties;
}

abbrev pub subscribe_list : SubscribeProperties → List ℕ
subscribe_list p = optional SubscriptionIdentifier p.subscription_identifier ++ (user_bytes p.user_properties)

-- 3.10.2.1 UNSUBSCRIBE
abbrev pub unsubscribe_of : Properties → UnsubscribeProperties
unsubscribe_of all = record {
  user_properties = all.user_properties;
}

abbrev pub unsubscribe_list : UnsubscribeProperties → List ℕ
unsubscribe_list p = user_bytes p.user_properties

-- 3.14.2.2 DISCONNECT
abbrev pub disconnect_of : Properties → DisconnectProperties
disconnect_of all = record {
  session_expiry_interval = all.session_expiry_interval;
  reason_string = all.reason_string;
  user_properties = all.user_properties;
}

abbrev pub disconnect_list : DisconnectProperties → List ℕ
disconnect_list p = optional SessionExpiryInterval p.session_expiry_interval ++ (optional ReasonString p.reason_string ++ (user_bytes p.user_properties))
