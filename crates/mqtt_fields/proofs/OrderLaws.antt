-- Properties are written in rising order of their identifiers.
use Rattle.std.proofs.Common.{◌≡◌, ℕ, ◌≤◌, List, [], ◌∷◌, ◌++◌, Option, Some, None, refl, sym, ap, ◌∙◌, arith}
use Rattle.std.specs.List.{flat_map}
use Rattle.std.proofs.lemmas.List.{append-nil}
use Rattle.std.proofs.lemmas.List.Concat.{flat_map-append, flat_map-cons}
use Rattle.mqtt_fields.specs.declared.property.Property.{Property}
use Rattle.mqtt_fields.specs.declared.property.Property.TheVariants.{PayloadFormatIndicator, MessageExpiryInterval, ContentType, ResponseTopic, CorrelationData, SubscriptionIdentifier, SessionExpiryInterval, AuthenticationMethod, AuthenticationData, RequestProblemInformation, RequestResponseInformation, ReasonString, ReceiveMaximum, TopicAliasMaximum, TopicAlias, UserProperty, MaximumPacketSize}
use Rattle.mqtt_packet.specs.declared.user_properties.UserProperty.{UserProperty as Pair}
use Rattle.mqtt_packet.specs.declared.packet.Publish.{Publish}
use Rattle.mqtt_packet.specs.declared.packet_properties.Authentication.{Authentication}
use Rattle.mqtt_packet.specs.declared.packet_properties.ConnectProperties.{ConnectProperties}
use Rattle.mqtt_packet.specs.declared.packet_properties.PubackProperties.{PubackProperties}
use Rattle.mqtt_packet.specs.declared.packet_properties.SubscribeProperties.{SubscribeProperties}
use Rattle.mqtt_packet.specs.declared.packet_properties.UnsubscribeProperties.{UnsubscribeProperties}
use Rattle.mqtt_packet.specs.declared.packet_properties.DisconnectProperties.{DisconnectProperties}
use Rattle.mqtt_fields.specs.Properties.{identifier_of, name_of}
use Rattle.mqtt_fields.specs.Sections.{property_bytes}
use Rattle.mqtt_fields.specs.PropertyLists.{optional, user_bytes, authentication_bytes, connect_list, publish_list, puback_list, subscribe_list, unsubscribe_list, disconnect_list}
use Rattle.mqtt_fields.specs.Orders.{Rises, AreRising}

-- identifiers that rise from the least to the greatest
abbrev RisesTo : ℕ → List Property → ℕ → Type 0
RisesTo least [] greatest = least ≤ greatest
RisesTo least (property ∷ others) greatest = (least ≤ identifier_of (name_of property)) × RisesTo (identifier_of (name_of property)) others greatest

lowered : (list : List Property) (lower least greatest : ℕ) → lower ≤ least → RisesTo least list greatest → RisesTo lower list greatest
lowered [] lower least greatest le rises = omega arith
lowered (property ∷ others) lower least greatest le rises =
    let first : lower ≤ identifier_of (name_of property) = omega (arith, rises.0) in (first, rises.1)

joined : (a b : List Property) (least middle next greatest : ℕ) → RisesTo least a middle → middle ≤ next → RisesTo next b greatest → RisesTo least (a ++ b) greatest
joined [] b least middle next greatest rises le others = lowered b least next greatest (omega arith) others
joined (property ∷ a) b least middle next greatest rises le others =
    (rises.0, joined a b (identifier_of (name_of property)) middle next greatest rises.1 le others)

rising : (list : List Property) (least greatest : ℕ) → RisesTo least list greatest → Rises least list
rising [] least greatest rises = tt
rising (property ∷ others) least greatest rises = (rises.0, rising others (identifier_of (name_of property)) greatest rises.1)

-- bytes that are properties whose identifiers rise so
record Segment (least : ℕ) (bytes : List ℕ) (greatest : ℕ) : Type 0 where
  list : List Property
  spelled : bytes ≡ flat_map property_bytes list
  rises : RisesTo least list greatest

one : (property : Property) → Segment (identifier_of (name_of property)) (property_bytes property) (identifier_of (name_of property))
one property = record { list = property ∷ []; spelled = sym (flat_map-cons property_bytes property [] ∙ append-nil (property_bytes property)); rises = (omega arith, omega arith) }

-- a property that may be left out
maybe : {A : Type 0} (make : A → Property) (identifier : ℕ) (value : Option A) → ((x : A) → identifier_of (name_of (make x)) ≡ identifier) → Segment identifier (optional make value) identifier
maybe make identifier None is = record { list = []; spelled = refl; rises = omega arith }
maybe make identifier (Some x) is = record {
  list = make x ∷ [];
  spelled = sym (flat_map-cons property_bytes (make x) [] ∙ append-nil (property_bytes (make x)));
  rises = (omega (arith, is x), omega (arith, is x));
}

made : List Pair → List Property
made [] = []
made (pair ∷ others) = UserProperty pair ∷ made others

pairs_spelled : (pairs : List Pair) → user_bytes pairs ≡ flat_map property_bytes (made pairs)
unfolding made
pairs_spelled [] = refl
pairs_spelled (pair ∷ others) =
    flat_map-cons (λ (p : Pair). property_bytes (UserProperty p)) pair others
    ∙ ap (λ (b : List ℕ). property_bytes (UserProperty pair) ++ b) (pairs_spelled others)
    ∙ sym (flat_map-cons property_bytes (UserProperty pair) (made others))

pairs_rise : (pairs : List Pair) → RisesTo 0x26 (made pairs) 0x26
unfolding made
pairs_rise [] = omega arith
pairs_rise (pair ∷ others) = (omega arith, pairs_rise others)

user : (pairs : List Pair) → Segment 0x26 (user_bytes pairs) 0x26
user pairs = record { list = made pairs; spelled = pairs_spelled pairs; rises = pairs_rise pairs }

-- one section after another
followed : {a b : List ℕ} (least middle next greatest : ℕ) → Segment least a middle → middle ≤ next → Segment next b greatest → Segment least (a ++ b) greatest
followed {a} {b} least middle next greatest x le y = record {
  list = x.list ++ y.list;
  spelled = ap (λ (f : List ℕ). f ++ b) x.spelled ∙ ap (λ (f : List ℕ). flat_map property_bytes x.list ++ f) y.spelled ∙ sym (flat_map-append property_bytes x.list y.list);
  rises = joined x.list y.list least middle next greatest x.rises le y.rises;
}

authentication : (a : Option Authentication) → Segment 0x15 (authentication_bytes a) 0x16
authentication None = record { list = []; spelled = refl; rises = omega arith }
authentication (Some a) = followed 0x15 0x15 0x16 0x16 (one (AuthenticationMethod a.method)) (omega arith) (maybe AuthenticationData 0x16 a.authentication_data (λ _. refl))

ends : (bytes : List ℕ) (least greatest : ℕ) → Segment least bytes greatest → AreRising bytes
ends bytes least greatest x = (x.list, x.spelled, rising x.list 0 greatest (lowered x.list 0 least greatest (omega arith) x.rises))

pub connect_rises : (p : ConnectProperties) → AreRising (connect_list p)
connect_rises p = ends (connect_list p) 0x11 0x27
    (followed 0x11 0x11 0x15 0x27 (maybe SessionExpiryInterval 0x11 p.session_expiry_interval (λ _. refl)) (omega arith)
    (followed 0x15 0x16 0x17 0x27 (authentication p.authentication) (omega arith)
    (followed 0x17 0x17 0x19 0x27 (maybe RequestProblemInformation 0x17 p.request_problem_information (λ _. refl)) (omega arith)
    (followed 0x19 0x19 0x21 0x27 (maybe RequestResponseInformation 0x19 p.request_response_information (λ _. refl)) (omega arith)
    (followed 0x21 0x21 0x22 0x27 (maybe ReceiveMaximum 0x21 p.receive_maximum (λ _. refl)) (omega arith)
    (followed 0x22 0x22 0x26 0x27 (maybe TopicAliasMaximum 0x22 p.topic_alias_maximum (λ _. refl)) (omega arith)
    (followed 0x26 0x26 0x27 0x27 (user p.user_properties) (omega arith) (maybe MaximumPacketSize 0x27 p.maximum_packet_size (λ _. refl)))))))))

pub publish_rises : (p : Publish) → AreRising (publish_list p)
publish_rises p = ends (publish_list p) 0x01 0x26
    (followed 0x01 0x01 0x02 0x26 (maybe PayloadFormatIndicator 0x01 p.properties.payload_format_indicator (λ _. refl)) (omega arith)
    (followed 0x02 0x02 0x03 0x26 (maybe MessageExpiryInterval 0x02 p.message_expiry_interval (λ _. refl)) (omega arith)
    (followed 0x03 0x03 0x08 0x26 (maybe ContentType 0x03 p.properties.content_type (λ _. refl)) (omega arith)
    (followed 0x08 0x08 0x09 0x26 (maybe ResponseTopic 0x08 p.properties.response_topic (λ _. refl)) (omega arith)
    (followed 0x09 0x09 0x0B 0x26 (maybe CorrelationData 0x09 p.properties.correlation_data (λ _. refl)) (omega arith)
    (followed 0x0B 0x0B 0x23 0x26 (maybe SubscriptionIdentifier 0x0B p.subscription_identifier (λ _. refl)) (omega arith)
    (followed 0x23 0x23 0x26 0x26 (maybe TopicAlias 0x23 p.properties.topic_alias (λ _. refl)) (omega arith) (user p.properties.user_properties))))))))

pub puback_rises : (p : PubackProperties) → AreRising (puback_list p)
puback_rises p = ends (puback_list p) 0x1F 0x26 (followed 0x1F 0x1F 0x26 0x26 (maybe ReasonString 0x1F p.reason_string (λ _. refl)) (omega arith) (user p.user_properties))

pub subscribe_rises : (p : SubscribeProperties) → AreRising (subscribe_list p)
subscribe_rises p = ends (subscribe_list p) 0x0B 0x26 (followed 0x0B 0x0B 0x26 0x26 (maybe SubscriptionIdentifier 0x0B p.subscription_identifier (λ _. refl)) (omega arith) (user p.user_properties))

pub unsubscribe_rises : (p : UnsubscribeProperties) → AreRising (unsubscribe_list p)
unsubscribe_rises p = ends (unsubscribe_list p) 0x26 0x26 (user p.user_properties)

pub disconnect_rises : (p : DisconnectProperties) → AreRising (disconnect_list p)
disconnect_rises p = ends (disconnect_list p) 0x11 0x26
    (followed 0x11 0x11 0x1F 0x26 (maybe SessionExpiryInterval 0x11 p.session_expiry_interval (λ _. refl)) (omega arith)
    (followed 0x1F 0x1F 0x26 0x26 (maybe ReasonString 0x1F p.reason_string (λ _. refl)) (omega arith) (user p.user_properties)))
