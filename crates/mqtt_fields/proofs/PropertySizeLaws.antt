-- How many bytes the properties of each packet are written in.
use Rattle.std.proofs.Common.{◌≡◌, ℕ, ◌+◌, ◌≤◌, List, ◌++◌, length, sym, ap, ◌∙◌, arith, inl, inr, length-append}
use Rattle.std.specs.Prelude.{min}
use Rattle.std.proofs.Math.Nat.{min-eq_left, min_comm}
use Rattle.std.proofs.lemmas.Bool.{cases_lt}
use Rattle.mqtt_fields.specs.declared.property.Property.TheVariants.{PayloadFormatIndicator, MessageExpiryInterval, ContentType, ResponseTopic, CorrelationData, SubscriptionIdentifier, SessionExpiryInterval, RequestProblemInformation, RequestResponseInformation, ReasonString, ReceiveMaximum, TopicAliasMaximum, TopicAlias, MaximumPacketSize}
use Rattle.mqtt_packet.specs.declared.packet.Publish.{Publish}
use Rattle.mqtt_packet.specs.declared.packet_properties.ConnectProperties.{ConnectProperties}
use Rattle.mqtt_packet.specs.declared.packet_properties.PubackProperties.{PubackProperties}
use Rattle.mqtt_packet.specs.declared.packet_properties.DisconnectProperties.{DisconnectProperties}
use Rattle.mqtt_fields.specs.Sizes.{greatest, rare_length}
use Rattle.mqtt_fields.specs.PropertyLists.{optional, user_bytes, authentication_bytes, connect_list, publish_list, puback_list, disconnect_list}

large_is : (n : ℕ) → greatest ≤ n → min n greatest ≡ greatest
large_is n le = min_comm n greatest ∙ min-eq_left le

-- a part that stops at the greatest number, and the rest of the whole
pub saturated : (r a b n whole : ℕ) → r ≡ min (a + b) greatest → a ≡ min n greatest → whole ≡ b + n → r ≡ min whole greatest
saturated r a b n whole e f g =
    elim (cases_lt n greatest) [
      | inl less ↦
          let le : n ≤ greatest = omega arith in
          let same : a ≡ n = f ∙ min-eq_left le in
          let sum : a + b ≡ whole = omega arith in
          e ∙ ap (λ (k : ℕ). min k greatest) sum
      | inr large ↦
          let same : a ≡ greatest = f ∙ large_is n large in
          let sum : greatest ≤ a + b = omega arith in
          let all : greatest ≤ whole = omega arith in
          e ∙ large_is (a + b) sum ∙ sym (large_is whole all)
    ]

-- a size that is not too great for a `usize`
pub whole : (n : ℕ) → n ≤ greatest → n ≡ min n greatest
whole n le = sym (min-eq_left le)

pub connect_length : (p : ConnectProperties) → length (connect_list p) ≡ length (optional SessionExpiryInterval p.session_expiry_interval) + length (optional RequestProblemInformation p.request_problem_information) + length (optional RequestResponseInformation p.request_response_information) + length (optional ReceiveMaximum p.receive_maximum) + length (optional TopicAliasMaximum p.topic_alias_maximum) + length (optional MaximumPacketSize p.maximum_packet_size) + length (authentication_bytes p.authentication) + length (user_bytes p.user_properties)
connect_length p =
    let last : List ℕ = optional MaximumPacketSize p.maximum_packet_size in
    let users : List ℕ = user_bytes p.user_properties ++ last in
    let aliases : List ℕ = optional TopicAliasMaximum p.topic_alias_maximum ++ users in
    let maximum : List ℕ = optional ReceiveMaximum p.receive_maximum ++ aliases in
    let response : List ℕ = optional RequestResponseInformation p.request_response_information ++ maximum in
    let problem : List ℕ = optional RequestProblemInformation p.request_problem_information ++ response in
    let authentication : List ℕ = authentication_bytes p.authentication ++ problem in
    omega (arith, length-append (optional SessionExpiryInterval p.session_expiry_interval) authentication, length-append (authentication_bytes p.authentication) problem, length-append (optional RequestProblemInformation p.request_problem_information) response, length-append (optional RequestResponseInformation p.request_response_information) maximum, length-append (optional ReceiveMaximum p.receive_maximum) aliases, length-append (optional TopicAliasMaximum p.topic_alias_maximum) users, length-append (user_bytes p.user_properties) last)

pub publish_length : (p : Publish) → length (publish_list p) ≡ length (optional MessageExpiryInterval p.message_expiry_interval) + length (optional SubscriptionIdentifier p.subscription_identifier) + rare_length p.properties
publish_length p =
    let users : List ℕ = user_bytes p.properties.user_properties in
    let alias : List ℕ = optional TopicAlias p.properties.topic_alias ++ users in
    let identifier : List ℕ = optional SubscriptionIdentifier p.subscription_identifier ++ alias in
    let correlation : List ℕ = optional CorrelationData p.properties.correlation_data ++ identifier in
    let response : List ℕ = optional ResponseTopic p.properties.response_topic ++ correlation in
    let content : List ℕ = optional ContentType p.properties.content_type ++ response in
    let expiry : List ℕ = optional MessageExpiryInterval p.message_expiry_interval ++ content in
    omega (arith, length-append (optional PayloadFormatIndicator p.properties.payload_format_indicator) expiry, length-append (optional MessageExpiryInterval p.message_expiry_interval) content, length-append (optional ContentType p.properties.content_type) response, length-append (optional ResponseTopic p.properties.response_topic) correlation, length-append (optional CorrelationData p.properties.correlation_data) identifier, length-append (optional SubscriptionIdentifier p.subscription_identifier) alias, length-append (optional TopicAlias p.properties.topic_alias) users)

pub puback_length : (p : PubackProperties) → length (puback_list p) ≡ length (optional ReasonString p.reason_string) + length (user_bytes p.user_properties)
puback_length p = length-append (optional ReasonString p.reason_string) (user_bytes p.user_properties)

pub disconnect_length : (p : DisconnectProperties) → length (disconnect_list p) ≡ length (optional SessionExpiryInterval p.session_expiry_interval) + length (optional ReasonString p.reason_string) + length (user_bytes p.user_properties)
disconnect_length p =
    let users : List ℕ = user_bytes p.user_properties in
    omega (arith, length-append (optional SessionExpiryInterval p.session_expiry_interval) (optional ReasonString p.reason_string ++ users), length-append (optional ReasonString p.reason_string) users)
