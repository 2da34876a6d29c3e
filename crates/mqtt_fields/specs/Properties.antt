-- Properties (section 2.2.2): which a packet may have, and how they add up.
use Rattle.std.specs.Prelude.{ℕ, ◌==◌, ◌&&◌, ◌||◌, Bool, true, false, not, if◌then◌else◌, List, [], ◌∷◌, ◌++◌, Option, Some, None, is_some}
use Rattle.mqtt_fields.specs.declared.property.Section.{Section}
use Rattle.mqtt_fields.specs.declared.property.Section.TheVariants as sections
use Rattle.mqtt_fields.specs.declared.property.PropertyName.{PropertyName}
use Rattle.mqtt_fields.specs.declared.property.PropertyName.TheVariants as names
use Rattle.mqtt_fields.specs.declared.property.Property.{Property}
use Rattle.mqtt_fields.specs.declared.property.Property.TheVariants.{PayloadFormatIndicator, MessageExpiryInterval, ContentType, ResponseTopic, CorrelationData, SubscriptionIdentifier, SessionExpiryInterval, AuthenticationMethod, AuthenticationData, RequestProblemInformation, RequestResponseInformation, ReasonString, ReceiveMaximum, TopicAliasMaximum, TopicAlias, UserProperty, MaximumPacketSize}
use Rattle.mqtt_fields.specs.declared.properties.Properties.{Properties}

-- table 2-4: the Property Identifier of each
abbrev pub identifier_of : PropertyName → ℕ
identifier_of names.PayloadFormatIndicator = 0x01
identifier_of names.MessageExpiryInterval = 0x02
identifier_of names.ContentType = 0x03
identifier_of names.ResponseTopic = 0x08
identifier_of names.CorrelationData = 0x09
identifier_of names.SubscriptionIdentifier = 0x0B
identifier_of names.SessionExpiryInterval = 0x11
identifier_of names.AuthenticationMethod = 0x15
identifier_of names.AuthenticationData = 0x16
identifier_of names.RequestProblemInformation = 0x17
identifier_of names.RequestResponseInformation = 0x19
identifier_of names.ReasonString = 0x1F
identifier_of names.ReceiveMaximum = 0x21
identifier_of names.TopicAliasMaximum = 0x22
identifier_of names.TopicAlias = 0x23
identifier_of names.UserProperty = 0x26
identifier_of names.MaximumPacketSize = 0x27

-- 3.1.2.11, 3.3.2.3, 3.4.2.2, 3.8.2.1, 3.10.2.1 and 3.14.2.2: the properties of each packet that a client sends
abbrev pub connect_names : List PropertyName
connect_names =
    names.SessionExpiryInterval ∷ names.AuthenticationMethod ∷ names.AuthenticationData ∷ names.RequestProblemInformation ∷ names.RequestResponseInformation
    ∷ names.ReceiveMaximum ∷ names.TopicAliasMaximum ∷ names.UserProperty ∷ names.MaximumPacketSize ∷ []

abbrev pub publish_names : List PropertyName
publish_names =
    names.PayloadFormatIndicator ∷ names.MessageExpiryInterval ∷ names.ContentType ∷ names.ResponseTopic ∷ names.CorrelationData
    ∷ names.SubscriptionIdentifier ∷ names.TopicAlias ∷ names.UserProperty ∷ []

abbrev pub puback_names : List PropertyName
puback_names = names.ReasonString ∷ names.UserProperty ∷ []

abbrev pub subscribe_names : List PropertyName
subscribe_names = names.SubscriptionIdentifier ∷ names.UserProperty ∷ []

abbrev pub unsubscribe_names : List PropertyName
unsubscribe_names = names.UserProperty ∷ []

abbrev pub disconnect_names : List PropertyName
disconnect_names = names.SessionExpiryInterval ∷ names.ReasonString ∷ names.UserProperty ∷ []

abbrev pub names_of : Section → List PropertyName
names_of sections.Connect = connect_names
names_of sections.Publish = publish_names
names_of sections.Puback = puback_names
names_of sections.Subscribe = subscribe_names
names_of sections.Unsubscribe = unsubscribe_names
names_of sections.Disconnect = disconnect_names

-- the one of these that has the identifier
abbrev pub name_among : List PropertyName → ℕ → Option PropertyName
name_among [] identifier = None
name_among (name ∷ others) identifier = if identifier == identifier_of name then Some name else name_among others identifier

abbrev pub name_in : Section → ℕ → Option PropertyName
name_in section identifier = name_among (names_of section) identifier

-- 3.3.4: a client's PUBLISH has no Subscription Identifier
abbrev pub is_forbidden : Section → PropertyName → Bool
is_forbidden sections.Publish names.SubscriptionIdentifier = true
is_forbidden section name = false

-- the name of a property
abbrev pub name_of : Property → PropertyName
name_of (PayloadFormatIndicator value) = names.PayloadFormatIndicator
name_of (MessageExpiryInterval seconds) = names.MessageExpiryInterval
name_of (ContentType text) = names.ContentType
name_of (ResponseTopic text) = names.ResponseTopic
name_of (CorrelationData bytes) = names.CorrelationData
name_of (SubscriptionIdentifier number) = names.SubscriptionIdentifier
name_of (SessionExpiryInterval seconds) = names.SessionExpiryInterval
name_of (AuthenticationMethod text) = names.AuthenticationMethod
name_of (AuthenticationData bytes) = names.AuthenticationData
name_of (RequestProblemInformation flag) = names.RequestProblemInformation
name_of (RequestResponseInformation flag) = names.RequestResponseInformation
name_of (ReasonString text) = names.ReasonString
name_of (ReceiveMaximum number) = names.ReceiveMaximum
name_of (TopicAliasMaximum number) = names.TopicAliasMaximum
name_of (TopicAlias number) = names.TopicAlias
name_of (UserProperty pair) = names.UserProperty
name_of (MaximumPacketSize size) = names.MaximumPacketSize

-- no property is there
abbrev pub nothing : Properties
nothing = record {
  payload_format_indicator = None;
  message_expiry_interval = None;
  content_type = None;
  response_topic = None;
  correlation_data = None;
  subscription_identifier = None;
  session_expiry_interval = None;
  authentication_method = None;
  authentication_data = None;
  request_problem_information = None;
  request_response_information = None;
  reason_string = None;
  receive_maximum = None;
  topic_alias_maximum = None;
  topic_alias = None;
  user_properties = [];
  maximum_packet_size = None;
}

-- one property more
abbrev pub with_property : Property → Properties → Properties
with_property (PayloadFormatIndicator value) all = record all { payload_format_indicator = Some value }
with_property (MessageExpiryInterval seconds) all = record all { message_expiry_interval = Some seconds }
with_property (ContentType text) all = record all { content_type = Some text }
with_property (ResponseTopic text) all = record all { response_topic = Some text }
with_property (CorrelationData bytes) all = record all { correlation_data = Some bytes }
with_property (SubscriptionIdentifier number) all = record all { subscription_identifier = Some number }
with_property (SessionExpiryInterval seconds) all = record all { session_expiry_interval = Some seconds }
with_property (AuthenticationMethod text) all = record all { authentication_method = Some text }
with_property (AuthenticationData bytes) all = record all { authentication_data = Some bytes }
with_property (RequestProblemInformation flag) all = record all { request_problem_information = Some flag }
with_property (RequestResponseInformation flag) all = record all { request_response_information = Some flag }
with_property (ReasonString text) all = record all { reason_string = Some text }
with_property (ReceiveMaximum number) all = record all { receive_maximum = Some number }
with_property (TopicAliasMaximum number) all = record all { topic_alias_maximum = Some number }
with_property (TopicAlias number) all = record all { topic_alias = Some number }
with_property (UserProperty pair) all = record all { user_properties = all.user_properties ++ pair ∷ [] }
with_property (MaximumPacketSize size) all = record all { maximum_packet_size = Some size }

-- a property of that name is there, and it may not repeat: only a User Property may
abbrev pub is_there : PropertyName → Properties → Bool
is_there names.PayloadFormatIndicator all = is_some all.payload_format_indicator
is_there names.MessageExpiryInterval all = is_some all.message_expiry_interval
is_there names.ContentType all = is_some all.content_type
is_there names.ResponseTopic all = is_some all.response_topic
is_there names.CorrelationData all = is_some all.correlation_data
is_there names.SubscriptionIdentifier all = is_some all.subscription_identifier
is_there names.SessionExpiryInterval all = is_some all.session_expiry_interval
is_there names.AuthenticationMethod all = is_some all.authentication_method
is_there names.AuthenticationData all = is_some all.authentication_data
is_there names.RequestProblemInformation all = is_some all.request_problem_information
is_there names.RequestResponseInformation all = is_some all.request_response_information
is_there names.ReasonString all = is_some all.reason_string
is_there names.ReceiveMaximum all = is_some all.receive_maximum
is_there names.TopicAliasMaximum all = is_some all.topic_alias_maximum
is_there names.TopicAlias all = is_some all.topic_alias
is_there names.UserProperty all = false
is_there names.MaximumPacketSize all = is_some all.maximum_packet_size

-- a property of that name may come in the section, after those that are there
abbrev pub may_come : Section → Properties → PropertyName → Bool
may_come section so_far name = is_some (name_in section (identifier_of name)) && not (is_forbidden section name || is_there name so_far)
