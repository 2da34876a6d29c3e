-- Which values the fields and the properties of a packet may have (sections 1.5 and 2.2): the types of `mqtt_packet` keep them so.
use Rattle.std.specs.Prelude.{ℕ, ◌<◌, ◌^◌, List, Option, Some, None, IfSome}
use Rattle.std.specs.List.{AllByRecursion}
use Rattle.mqtt_fields.specs.declared.property.Property.{Property}
use Rattle.mqtt_fields.specs.declared.property.Property.TheVariants.{PayloadFormatIndicator, MessageExpiryInterval, ContentType, ResponseTopic, CorrelationData, SubscriptionIdentifier, SessionExpiryInterval, AuthenticationData, RequestProblemInformation, RequestResponseInformation, ReasonString, ReceiveMaximum, TopicAliasMaximum, TopicAlias, MaximumPacketSize}
use Rattle.mqtt_packet.specs.declared.user_properties.UserProperty.{UserProperty as Pair}
use Rattle.mqtt_packet.specs.declared.packet.Publish.{Publish}
use Rattle.mqtt_packet.specs.declared.packet_properties.Authentication.{Authentication}
use Rattle.mqtt_packet.specs.declared.packet_properties.ConnectProperties.{ConnectProperties}
use Rattle.mqtt_packet.specs.declared.packet_properties.PubackProperties.{PubackProperties}
use Rattle.mqtt_packet.specs.declared.packet_properties.SubscribeProperties.{SubscribeProperties}
use Rattle.mqtt_packet.specs.declared.packet_properties.UnsubscribeProperties.{UnsubscribeProperties}
use Rattle.mqtt_packet.specs.declared.packet_properties.DisconnectProperties.{DisconnectProperties}
use Rattle.mqtt_packet.specs.Texts.{IsText}
use Rattle.mqtt_fields.specs.Sections.{IsPair, IsProperty}

-- 2.2.1: a Packet Identifier is not 0 and fits two bytes
abbrev pub IsIdentifier : ℕ → Type 0
IsIdentifier number = (0 < number) × (number < 2 ^ 16)

-- a property that is there is in the range of its type
abbrev pub Fits : {A : Type 0} → (A → Property) → Option A → Type 0
Fits make value = IfSome value (λ x. IsProperty (make x))

abbrev pub ArePairs : List Pair → Type 0
ArePairs pairs = AllByRecursion IsPair pairs

abbrev pub AuthenticationFits : Option Authentication → Type 0
AuthenticationFits None = Unit {0}
AuthenticationFits (Some a) = IsText a.method × Fits AuthenticationData a.authentication_data

pub record ConnectFits (p : ConnectProperties) : Type 0 where
  pub session_expiry_interval : Fits SessionExpiryInterval p.session_expiry_interval
  pub authentication : AuthenticationFits p.authentication
  pub request_problem_information : Fits RequestProblemInformation p.request_problem_information
  pub request_response_information : Fits RequestResponseInformation p.request_response_information
  pub receive_maximum : Fits ReceiveMaximum p.receive_maximum
  pub topic_alias_maximum : Fits TopicAliasMaximum p.topic_alias_maximum
  pub user_properties : ArePairs p.user_properties
  pub maximum_packet_size : Fits MaximumPacketSize p.maximum_packet_size

pub record PublishFits (p : Publish) : Type 0 where
  pub payload_format_indicator : Fits PayloadFormatIndicator p.properties.payload_format_indicator
  pub message_expiry_interval : Fits MessageExpiryInterval p.message_expiry_interval
  pub content_type : Fits ContentType p.properties.content_type
  pub response_topic : Fits ResponseTopic p.properties.response_topic
  pub correlation_data : Fits CorrelationData p.properties.correlation_data
  pub subscription_identifier : Fits SubscriptionIdentifier p.subscription_identifier
  pub topic_alias : Fits TopicAlias p.properties.topic_alias
  pub user_properties : ArePairs p.properties.user_properties

pub record PubackFits (p : PubackProperties) : Type 0 where
  pub reason_string : Fits ReasonString p.reason_string
  pub user_properties : ArePairs p.user_properties

pub record SubscribeFits (p : SubscribeProperties) : Type 0 where
  pub subscription_identifier : Fits SubscriptionIdentifier p.subscription_identifier
  pub user_properties : ArePairs p.user_properties

pub record UnsubscribeFits (p : UnsubscribeProperties) : Type 0 where
  pub user_properties : ArePairs p.user_properties

pub record DisconnectFits (p : DisconnectProperties) : Type 0 where
  pub session_expiry_interval : Fits SessionExpiryInterval p.session_expiry_interval
  pub reason_string : Fits ReasonString p.reason_string
  pub user_properties : ArePairs p.user_properties
