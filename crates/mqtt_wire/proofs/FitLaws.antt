-- Properties that are spelled are in the ranges of their types.
use Rattle.std.proofs.Common.{◌≡◌, ℕ, List, [], ◌∷◌, ◌++◌, Option, Some, None, Result, Ok, Err, refl, sym, subst, rules}
use Rattle.mqtt_fields.specs.declared.fault.StreamFault.{StreamFault}
use Rattle.mqtt_fields.specs.declared.property.Property.{Property}
use Rattle.mqtt_fields.specs.declared.property.Property.TheVariants.{PayloadFormatIndicator, MessageExpiryInterval, ContentType, ResponseTopic, CorrelationData, SubscriptionIdentifier, SessionExpiryInterval, AuthenticationMethod, AuthenticationData, RequestProblemInformation, RequestResponseInformation, ReasonString, ReceiveMaximum, TopicAliasMaximum, TopicAlias, UserProperty, MaximumPacketSize}
use Rattle.mqtt_fields.specs.declared.property.Section.{Section}
use Rattle.mqtt_fields.specs.declared.property.Section.TheVariants as sections
use Rattle.mqtt_fields.specs.declared.properties.Properties.{Properties}
use Rattle.mqtt_packet.specs.declared.user_properties.UserProperty.{UserProperty as Pair}
use Rattle.mqtt_packet.specs.declared.packet_properties.Authentication.{Authentication}
use Rattle.mqtt_packet.specs.declared.packet_properties.ConnectProperties.{ConnectProperties}
use Rattle.mqtt_packet.specs.declared.packet.Publish.{Publish}
use Rattle.mqtt_packet.specs.declared.packet.Packet.{Packet}
use Rattle.mqtt_packet.specs.declared.packet.Packet.TheVariants as packets
use Rattle.mqtt_fields.specs.Properties.{nothing, with_property}
use Rattle.mqtt_fields.specs.Sections.{IsPair, IsProperty, AddUp, SpellsProperties}
use Rattle.mqtt_fields.specs.PropertyLists.{authentication_of, connect_with, connect_from, connect_of, publish_of, puback_of, subscribe_of, unsubscribe_of, disconnect_of}
use Rattle.mqtt_fields.specs.FieldRanges.{Fits, ArePairs, AuthenticationFits, ConnectFits, PublishFits, PubackFits, SubscribeFits, UnsubscribeFits, DisconnectFits}
use Rattle.mqtt_wire.specs.Ranges.{IsFromClient, PropertiesFit}
use Rattle.mqtt_wire.specs.Spelling.{SpellsReason, SpellsBody}

-- each property that is there is in its range
record AllFit (all : Properties) : Type 0 where
  payload_format_indicator : Fits PayloadFormatIndicator all.payload_format_indicator
  message_expiry_interval : Fits MessageExpiryInterval all.message_expiry_interval
  content_type : Fits ContentType all.content_type
  response_topic : Fits ResponseTopic all.response_topic
  correlation_data : Fits CorrelationData all.correlation_data
  subscription_identifier : Fits SubscriptionIdentifier all.subscription_identifier
  session_expiry_interval : Fits SessionExpiryInterval all.session_expiry_interval
  authentication_method : Fits AuthenticationMethod all.authentication_method
  authentication_data : Fits AuthenticationData all.authentication_data
  request_problem_information : Fits RequestProblemInformation all.request_problem_information
  request_response_information : Fits RequestResponseInformation all.request_response_information
  reason_string : Fits ReasonString all.reason_string
  receive_maximum : Fits ReceiveMaximum all.receive_maximum
  topic_alias_maximum : Fits TopicAliasMaximum all.topic_alias_maximum
  topic_alias : Fits TopicAlias all.topic_alias
  user_properties : ArePairs all.user_properties
  maximum_packet_size : Fits MaximumPacketSize all.maximum_packet_size

nothing_fits : AllFit nothing
nothing_fits = record {
  payload_format_indicator = tt;
  message_expiry_interval = tt;
  content_type = tt;
  response_topic = tt;
  correlation_data = tt;
  subscription_identifier = tt;
  session_expiry_interval = tt;
  authentication_method = tt;
  authentication_data = tt;
  request_problem_information = tt;
  request_response_information = tt;
  reason_string = tt;
  receive_maximum = tt;
  topic_alias_maximum = tt;
  topic_alias = tt;
  user_properties = tt;
  maximum_packet_size = tt;
}

one_pair_more : (pairs : List Pair) (pair : Pair) → ArePairs pairs → IsPair pair → ArePairs (pairs ++ pair ∷ [])
one_pair_more [] pair all here = (here, tt)
one_pair_more (first ∷ others) pair all here = (all.0, one_pair_more others pair all.1 here)

one_more_fits : (property : Property) (all : Properties) → AllFit all → IsProperty property → AllFit (with_property property all)
one_more_fits (PayloadFormatIndicator value) all fits is = search rules
one_more_fits (MessageExpiryInterval seconds) all fits is = search rules
one_more_fits (ContentType text) all fits is = search rules
one_more_fits (ResponseTopic text) all fits is = search rules
one_more_fits (CorrelationData bytes) all fits is = search rules
one_more_fits (SubscriptionIdentifier number) all fits is = search rules
one_more_fits (SessionExpiryInterval seconds) all fits is = search rules
one_more_fits (AuthenticationMethod text) all fits is = search rules
one_more_fits (AuthenticationData bytes) all fits is = search rules
one_more_fits (RequestProblemInformation flag) all fits is = search rules
one_more_fits (RequestResponseInformation flag) all fits is = search rules
one_more_fits (ReasonString text) all fits is = search rules
one_more_fits (ReceiveMaximum number) all fits is = search rules
one_more_fits (TopicAliasMaximum number) all fits is = search rules
one_more_fits (TopicAlias number) all fits is = search rules
one_more_fits (UserProperty pair) all fits is =
    let pairs : ArePairs (all.user_properties ++ pair ∷ []) = one_pair_more all.user_properties pair fits.user_properties is in
    search rules
one_more_fits (MaximumPacketSize size) all fits is = search rules

sum_fits : (section : Section) (so_far : Properties) (list : List Property) (all : Properties) → AllFit so_far → AddUp section so_far list all → AllFit all
sum_fits section so_far [] all fits adds = subst AllFit adds fits
sum_fits section so_far (property ∷ others) all fits adds =
    sum_fits section (with_property property so_far) others all (one_more_fits property so_far fits adds.1) adds.2

section_fits : (section : Section) (all : Properties) (bytes : List ℕ) → SpellsProperties section all bytes → AllFit all
section_fits section all bytes spelled = sum_fits section nothing spelled.0 all nothing_fits spelled.2

reason_fits : (section : Section) (code : ℕ) (all : Properties) (bytes : List ℕ) → SpellsReason section code all bytes → AllFit all
reason_fits section code all [] spelled = subst AllFit (sym spelled.1) nothing_fits
reason_fits section code all (byte ∷ []) spelled = subst AllFit (sym spelled.1) nothing_fits
reason_fits section code all (byte ∷ next ∷ rest) spelled = section_fits section all (next ∷ rest) spelled.1

-- what a packet takes of them is in its range too
authentication_fits : (method bytes : Option (List ℕ)) (authentication : Option Authentication) → Fits AuthenticationMethod method → Fits AuthenticationData bytes → authentication_of method bytes ≡ Ok authentication → AuthenticationFits authentication
authentication_fits None None None m d e = tt
authentication_fits None None (Some a) m d e = absurd cc
authentication_fits None (Some b) authentication m d e = absurd cc
authentication_fits (Some method) bytes None m d e = absurd cc
authentication_fits (Some method) bytes (Some a) m d e =
    let same : a ≡ record { method = method; authentication_data = bytes } = cc in
    subst (λ (x : Authentication). AuthenticationFits (Some x)) (sym same) (m, d)

connect_from_fits : (all : Properties) (read : Result (Option Authentication) StreamFault) (p : ConnectProperties) → AllFit all → ((authentication : Option Authentication) → read ≡ Ok authentication → AuthenticationFits authentication) → connect_from all read ≡ Ok p → ConnectFits p
connect_from_fits all (Err fault) p fits checked e = absurd cc
connect_from_fits all (Ok authentication) p fits checked e =
    let same : connect_with all authentication ≡ p = cc in
    subst ConnectFits same (record {
      session_expiry_interval = fits.session_expiry_interval;
      authentication = checked authentication refl;
      request_problem_information = fits.request_problem_information;
      request_response_information = fits.request_response_information;
      receive_maximum = fits.receive_maximum;
      topic_alias_maximum = fits.topic_alias_maximum;
      user_properties = fits.user_properties;
      maximum_packet_size = fits.maximum_packet_size;
    })

connect_fits : (all : Properties) (p : ConnectProperties) → AllFit all → connect_of all ≡ Ok p → ConnectFits p
connect_fits all p fits e =
    connect_from_fits all (authentication_of all.authentication_method all.authentication_data) p fits
    (λ authentication. authentication_fits all.authentication_method all.authentication_data authentication fits.authentication_method fits.authentication_data) e

publish_fits : (all : Properties) (p : Publish) → AllFit all → publish_of all ≡ p.properties → all.message_expiry_interval ≡ p.message_expiry_interval → p.subscription_identifier ≡ None → PublishFits p
publish_fits all p fits properties expiry none = record {
  payload_format_indicator = rw (← properties) fits.payload_format_indicator;
  message_expiry_interval = rw (← expiry) fits.message_expiry_interval;
  content_type = rw (← properties) fits.content_type;
  response_topic = rw (← properties) fits.response_topic;
  correlation_data = rw (← properties) fits.correlation_data;
  subscription_identifier = rw none tt;
  topic_alias = rw (← properties) fits.topic_alias;
  user_properties = rw (← properties) fits.user_properties;
}

puback_fits : (all : Properties) → AllFit all → PubackFits (puback_of all)
puback_fits all fits = record { reason_string = fits.reason_string; user_properties = fits.user_properties }

subscribe_fits : (all : Properties) → AllFit all → SubscribeFits (subscribe_of all)
subscribe_fits all fits = record { subscription_identifier = fits.subscription_identifier; user_properties = fits.user_properties }

unsubscribe_fits : (all : Properties) → AllFit all → UnsubscribeFits (unsubscribe_of all)
unsubscribe_fits all fits = record { user_properties = fits.user_properties }

disconnect_fits : (all : Properties) → AllFit all → DisconnectFits (disconnect_of all)
disconnect_fits all fits = record { session_expiry_interval = fits.session_expiry_interval; reason_string = fits.reason_string; user_properties = fits.user_properties }

-- the properties of a packet that is spelled are in their ranges
pub spelled_fits : (packet : Packet) (body : List ℕ) → IsFromClient packet → SpellsBody packet body → PropertiesFit packet
spelled_fits (packets.Connect c) body client s = connect_fits s.all c.properties (section_fits sections.Connect s.all s.section s.spelled) s.properties_are
spelled_fits (packets.Connack c) body client s = absurd s
spelled_fits (packets.Publish p) body client s = publish_fits s.all p (section_fits sections.Publish s.all s.section s.spelled) s.properties_are s.expiry_is client.2
spelled_fits (packets.Puback p) body client s = subst PubackFits s.properties_are (puback_fits s.all (reason_fits sections.Puback p.reason_code s.all s.reason s.spelled))
spelled_fits (packets.Subscribe p) body client s = subst SubscribeFits s.properties_are (subscribe_fits s.all (section_fits sections.Subscribe s.all s.section s.spelled))
spelled_fits (packets.Suback p) body client s = absurd s
spelled_fits (packets.Unsubscribe p) body client s = subst UnsubscribeFits s.properties_are (unsubscribe_fits s.all (section_fits sections.Unsubscribe s.all s.section s.spelled))
spelled_fits (packets.Unsuback p) body client s = absurd s
spelled_fits packets.Pingreq body client s = tt
spelled_fits packets.Pingresp body client s = absurd s
spelled_fits (packets.Disconnect d) body client s = subst DisconnectFits s.properties_are (disconnect_fits s.all (reason_fits sections.Disconnect d.reason_code s.all body s.spelled))
spelled_fits (packets.Foreign kind) body client s = tt
spelled_fits (packets.OtherVersion version) body client s = tt
spelled_fits packets.WithWill body client s = tt
