-- The properties of each packet as they are written: they add up, so they are read again.
use Rattle.std.proofs.Common.{◌≡◌, ℕ, true, List, [], ◌∷◌, ◌++◌, Option, Some, None, Ok, refl, sym, ap, subst, ◌∙◌, append_assoc}
use Rattle.std.proofs.lemmas.List.{append-nil}
use Rattle.std.proofs.lemmas.List.Concat.{flat_map-cons}
use Rattle.mqtt_fields.specs.declared.property.Section.{Section}
use Rattle.mqtt_fields.specs.declared.property.Section.TheVariants as sections
use Rattle.mqtt_fields.specs.declared.property.PropertyName.TheVariants as names
use Rattle.mqtt_fields.specs.declared.property.Property.{Property}
use Rattle.mqtt_fields.specs.declared.property.Property.TheVariants.{PayloadFormatIndicator, MessageExpiryInterval, ContentType, ResponseTopic, CorrelationData, SubscriptionIdentifier, SessionExpiryInterval, AuthenticationMethod, AuthenticationData, RequestProblemInformation, RequestResponseInformation, ReasonString, ReceiveMaximum, TopicAliasMaximum, TopicAlias, UserProperty, MaximumPacketSize}
use Rattle.mqtt_fields.specs.declared.properties.Properties.{Properties}
use Rattle.mqtt_packet.specs.declared.user_properties.UserProperty.{UserProperty as Pair}
use Rattle.mqtt_packet.specs.declared.packet.Publish.{Publish}
use Rattle.mqtt_packet.specs.declared.packet_properties.Authentication.{Authentication}
use Rattle.mqtt_packet.specs.declared.packet_properties.ConnectProperties.{ConnectProperties}
use Rattle.mqtt_packet.specs.declared.packet_properties.PubackProperties.{PubackProperties}
use Rattle.mqtt_packet.specs.declared.packet_properties.SubscribeProperties.{SubscribeProperties}
use Rattle.mqtt_packet.specs.declared.packet_properties.UnsubscribeProperties.{UnsubscribeProperties}
use Rattle.mqtt_packet.specs.declared.packet_properties.DisconnectProperties.{DisconnectProperties}
use Rattle.mqtt_fields.specs.Properties.{name_of, may_come, nothing, with_property}
use Rattle.mqtt_fields.specs.Sections.{property_bytes, IsProperty, properties, SpellsProperties}
use Rattle.mqtt_fields.specs.PropertyLists.{optional, user_bytes, authentication_bytes, authentication_of, connect_from, connect_of, connect_list, publish_of, publish_list, puback_of, puback_list, subscribe_of, subscribe_list, unsubscribe_of, unsubscribe_list, disconnect_of, disconnect_list}
use Rattle.mqtt_fields.specs.FieldRanges.{Fits, ArePairs, AuthenticationFits, ConnectFits, PublishFits, PubackFits, SubscribeFits, UnsubscribeFits, DisconnectFits}
use Rattle.mqtt_fields.proofs.SectionLaws.{Gathered}

-- nothing more
ended : (section : Section) (all : Properties) → Gathered section all [] all
ended section all = record { list = []; parts = refl; adds = refl }

-- nothing after the bytes
last : (section : Section) (so_far : Properties) (bytes : List ℕ) (all : Properties) → Gathered section so_far (bytes ++ []) all → Gathered section so_far bytes all
last section so_far bytes all g = subst (λ (b : List ℕ). Gathered section so_far b all) (append-nil bytes) g

-- one property more
one : (section : Section) (so_far : Properties) (property : Property) (rest : List ℕ) (all : Properties) → may_come section so_far (name_of property) ≡ true → IsProperty property → Gathered section (with_property property so_far) rest all → Gathered section so_far (property_bytes property ++ rest) all
one section so_far property rest all may is g =
    record {
      list = property ∷ g.list;
      parts = ap (λ (r : List ℕ). property_bytes property ++ r) g.parts ∙ sym (flat_map-cons property_bytes property g.list);
      adds = (may, is, g.adds);
    }

-- one property more, or none
step : {A : Type 0} (section : Section) (make : A → Property) (set : Option A → Properties) (value : Option A) (rest : List ℕ) (all : Properties) → ((x : A) → with_property (make x) (set None) ≡ set (Some x)) → ((x : A) → may_come section (set None) (name_of (make x)) ≡ true) → Fits make value → Gathered section (set value) rest all → Gathered section (set None) (optional make value ++ rest) all
step section make set None rest all same may fits g = g
step section make set (Some x) rest all same may fits g =
    one section (set None) (make x) rest all (may x) fits (subst (λ (p : Properties). Gathered section p rest all) (sym (same x)) g)

-- User Properties
users : (section : Section) (set : List Pair → Properties) (before pairs : List Pair) (rest : List ℕ) (all : Properties) → ((some : List Pair) (pair : Pair) → with_property (UserProperty pair) (set some) ≡ set (some ++ pair ∷ [])) → ((some : List Pair) → may_come section (set some) names.UserProperty ≡ true) → ArePairs pairs → Gathered section (set (before ++ pairs)) rest all → Gathered section (set before) (user_bytes pairs ++ rest) all
users section set before [] rest all same may fits g = subst (λ (some : List Pair). Gathered section (set some) rest all) (append-nil before) g
users section set before (pair ∷ pairs) rest all same may fits g =
    let grown : before ++ (pair ∷ pairs) ≡ (before ++ pair ∷ []) ++ pairs = sym (append_assoc before (pair ∷ []) pairs) in
    let behind = users section set (before ++ pair ∷ []) pairs rest all same may fits.1 (subst (λ (some : List Pair). Gathered section (set some) rest all) grown g) in
    let bytes : user_bytes (pair ∷ pairs) ++ rest ≡ property_bytes (UserProperty pair) ++ (user_bytes pairs ++ rest) =
    ap (λ (b : List ℕ). b ++ rest) (flat_map-cons (λ (p : Pair). property_bytes (UserProperty p)) pair pairs) ∙ append_assoc (property_bytes (UserProperty pair)) (user_bytes pairs) rest in
    subst (λ (b : List ℕ). Gathered section (set before) b all) (sym bytes)
    (one section (set before) (UserProperty pair) (user_bytes pairs ++ rest) all (may before) fits.0 (subst (λ (p : Properties). Gathered section p (user_bytes pairs ++ rest) all) (sym (same before pair)) behind))

-- properties that are gathered are spelled, with their length in front
pub spelled : (section : Section) (bytes : List ℕ) (all : Properties) → Gathered section nothing bytes all → SpellsProperties section all (properties bytes)
spelled section bytes all g = (g.list, ap properties g.parts, g.adds)

-- ---- PUBLISH

abbrev pub all_of_publish : Publish → Properties
all_of_publish p = record (record (record (record (record (record (record (nothing) { payload_format_indicator = p.properties.payload_format_indicator }) { message_expiry_interval = p.message_expiry_interval }) { content_type = p.properties.content_type }) { response_topic = p.properties.response_topic }) { correlation_data = p.properties.correlation_data }) { topic_alias = p.properties.topic_alias }) { user_properties = p.properties.user_properties }

-- one that a server sends for a subscription is not read again
pub publish_gathered : (p : Publish) → p.subscription_identifier ≡ None → PublishFits p → Gathered sections.Publish nothing (publish_list p) (all_of_publish p)
publish_gathered p none fits =
    let plain : optional SubscriptionIdentifier p.subscription_identifier ≡ [] = ap (λ (identifier : Option ℕ). optional SubscriptionIdentifier identifier) none in
    let g0 = last sections.Publish (record (record (record (record (record (record (nothing) { payload_format_indicator = p.properties.payload_format_indicator }) { message_expiry_interval = p.message_expiry_interval }) { content_type = p.properties.content_type }) { response_topic = p.properties.response_topic }) { correlation_data = p.properties.correlation_data }) { topic_alias = p.properties.topic_alias }) (user_bytes p.properties.user_properties) (all_of_publish p) (users sections.Publish (λ some. record (record (record (record (record (record (record (nothing) { payload_format_indicator = p.properties.payload_format_indicator }) { message_expiry_interval = p.message_expiry_interval }) { content_type = p.properties.content_type }) { response_topic = p.properties.response_topic }) { correlation_data = p.properties.correlation_data }) { topic_alias = p.properties.topic_alias }) { user_properties = some }) [] p.properties.user_properties [] (all_of_publish p) (λ some pair. refl) (λ some. refl) fits.user_properties (ended sections.Publish (all_of_publish p))) in
    let g1 = step sections.Publish TopicAlias (λ v. record (record (record (record (record (record (nothing) { payload_format_indicator = p.properties.payload_format_indicator }) { message_expiry_interval = p.message_expiry_interval }) { content_type = p.properties.content_type }) { response_topic = p.properties.response_topic }) { correlation_data = p.properties.correlation_data }) { topic_alias = v }) p.properties.topic_alias (user_bytes p.properties.user_properties) (all_of_publish p) (λ x. refl) (λ x. refl) fits.topic_alias g0 in
    let g2 = step sections.Publish CorrelationData (λ v. record (record (record (record (record (nothing) { payload_format_indicator = p.properties.payload_format_indicator }) { message_expiry_interval = p.message_expiry_interval }) { content_type = p.properties.content_type }) { response_topic = p.properties.response_topic }) { correlation_data = v }) p.properties.correlation_data (optional TopicAlias p.properties.topic_alias ++ (user_bytes p.properties.user_properties)) (all_of_publish p) (λ x. refl) (λ x. refl) fits.correlation_data g1 in
    let g3 = step sections.Publish ResponseTopic (λ v. record (record (record (record (nothing) { payload_format_indicator = p.properties.payload_format_indicator }) { message_expiry_interval = p.message_expiry_interval }) { content_type = p.properties.content_type }) { response_topic = v }) p.properties.response_topic (optional CorrelationData p.properties.correlation_data ++ (optional TopicAlias p.properties.topic_alias ++ (user_bytes p.properties.user_properties))) (all_of_publish p) (λ x. refl) (λ x. refl) fits.response_topic g2 in
    let g4 = step sections.Publish ContentType (λ v. record (record (record (nothing) { payload_format_indicator = p.properties.payload_format_indicator }) { message_expiry_interval = p.message_expiry_interval }) { content_type = v }) p.properties.content_type (optional ResponseTopic p.properties.response_topic ++ (optional CorrelationData p.properties.correlation_data ++ (optional TopicAlias p.properties.topic_alias ++ (user_bytes p.properties.user_properties)))) (all_of_publish p) (λ x. refl) (λ x. refl) fits.content_type g3 in
    let g5 = step sections.Publish MessageExpiryInterval (λ v. record (record (nothing) { payload_format_indicator = p.properties.payload_format_indicator }) { message_expiry_interval = v }) p.message_expiry_interval (optional ContentType p.properties.content_type ++ (optional ResponseTopic p.properties.response_topic ++ (optional CorrelationData p.properties.correlation_data ++ (optional TopicAlias p.properties.topic_alias ++ (user_bytes p.properties.user_properties))))) (all_of_publish p) (λ x. refl) (λ x. refl) fits.message_expiry_interval g4 in
    let g6 = step sections.Publish PayloadFormatIndicator (λ v. record (nothing) { payload_format_indicator = v }) p.properties.payload_format_indicator (optional MessageExpiryInterval p.message_expiry_interval ++ (optional ContentType p.properties.content_type ++ (optional ResponseTopic p.properties.response_topic ++ (optional CorrelationData p.properties.correlation_data ++ (optional TopicAlias p.properties.topic_alias ++ (user_bytes p.properties.user_properties)))))) (all_of_publish p) (λ x. refl) (λ x. refl) fits.payload_format_indicator g5 in
    subst (λ (identifier : List ℕ). Gathered sections.Publish nothing (optional PayloadFormatIndicator p.properties.payload_format_indicator ++ (optional MessageExpiryInterval p.message_expiry_interval ++ (optional ContentType p.properties.content_type ++ (optional ResponseTopic p.properties.response_topic ++ (optional CorrelationData p.properties.correlation_data ++ (identifier ++ (optional TopicAlias p.properties.topic_alias ++ (user_bytes p.properties.user_properties)))))))) (all_of_publish p)) (sym plain) g6

pub publish_back : (p : Publish) → publish_of (all_of_publish p) ≡ p.properties
publish_back p = refl

-- ---- PUBACK

abbrev pub all_of_puback : PubackProperties → Properties
all_of_puback p = record (record (nothing) { reason_string = p.reason_string }) { user_properties = p.user_properties }

pub puback_gathered : (p : PubackProperties) → PubackFits p → Gathered sections.Puback nothing (puback_list p) (all_of_puback p)
puback_gathered p fits =
    let g0 = last sections.Puback (record (nothing) { reason_string = p.reason_string }) (user_bytes p.user_properties) (all_of_puback p) (users sections.Puback (λ some. record (record (nothing) { reason_string = p.reason_string }) { user_properties = some }) [] p.user_properties [] (all_of_puback p) (λ some pair. refl) (λ some. refl) fits.user_properties (ended sections.Puback (all_of_puback p))) in
    step sections.Puback ReasonString (λ v. record (nothing) { reason_string = v }) p.reason_string (user_bytes p.user_properties) (all_of_puback p) (λ x. refl) (λ x. refl) fits.reason_string g0

pub puback_back : (p : PubackProperties) → puback_of (all_of_puback p) ≡ p
puback_back p = refl

-- ---- SUBSCRIBE

abbrev pub all_of_subscribe : SubscribeProperties → Properties
all_of_subscribe p = record (record (nothing) { subscription_identifier = p.subscription_identifier }) { user_properties = p.user_properties }

pub subscribe_gathered : (p : SubscribeProperties) → SubscribeFits p → Gathered sections.Subscribe nothing (subscribe_list p) (all_of_subscribe p)
subscribe_gathered p fits =
    let g0 = last sections.Subscribe (record (nothing) { subscription_identifier = p.subscription_identifier }) (user_bytes p.user_properties) (all_of_subscribe p) (users sections.Subscribe (λ some. record (record (nothing) { subscription_identifier = p.subscription_identifier }) { user_properties = some }) [] p.user_properties [] (all_of_subscribe p) (λ some pair. refl) (λ some. refl) fits.user_properties (ended sections.Subscribe (all_of_subscribe p))) in
    step sections.Subscribe SubscriptionIdentifier (λ v. record (nothing) { subscription_identifier = v }) p.subscription_identifier (user_bytes p.user_properties) (all_of_subscribe p) (λ x. refl) (λ x. refl) fits.subscription_identifier g0

pub subscribe_back : (p : SubscribeProperties) → subscribe_of (all_of_subscribe p) ≡ p
subscribe_back p = refl

-- ---- UNSUBSCRIBE

abbrev pub all_of_unsubscribe : UnsubscribeProperties → Properties
all_of_unsubscribe p = record (nothing) { user_properties = p.user_properties }

pub unsubscribe_gathered : (p : UnsubscribeProperties) → UnsubscribeFits p → Gathered sections.Unsubscribe nothing (unsubscribe_list p) (all_of_unsubscribe p)
unsubscribe_gathered p fits =
    last sections.Unsubscribe (nothing) (user_bytes p.user_properties) (all_of_unsubscribe p) (users sections.Unsubscribe (λ some. record (nothing) { user_properties = some }) [] p.user_properties [] (all_of_unsubscribe p) (λ some pair. refl) (λ some. refl) fits.user_properties (ended sections.Unsubscribe (all_of_unsubscribe p)))

pub unsubscribe_back : (p : UnsubscribeProperties) → unsubscribe_of (all_of_unsubscribe p) ≡ p
unsubscribe_back p = refl

-- ---- DISCONNECT

abbrev pub all_of_disconnect : DisconnectProperties → Properties
all_of_disconnect p = record (record (record (nothing) { session_expiry_interval = p.session_expiry_interval }) { reason_string = p.reason_string }) { user_properties = p.user_properties }

pub disconnect_gathered : (p : DisconnectProperties) → DisconnectFits p → Gathered sections.Disconnect nothing (disconnect_list p) (all_of_disconnect p)
disconnect_gathered p fits =
    let g0 = last sections.Disconnect (record (record (nothing) { session_expiry_interval = p.session_expiry_interval }) { reason_string = p.reason_string }) (user_bytes p.user_properties) (all_of_disconnect p) (users sections.Disconnect (λ some. record (record (record (nothing) { session_expiry_interval = p.session_expiry_interval }) { reason_string = p.reason_string }) { user_properties = some }) [] p.user_properties [] (all_of_disconnect p) (λ some pair. refl) (λ some. refl) fits.user_properties (ended sections.Disconnect (all_of_disconnect p))) in
    let g1 = step sections.Disconnect ReasonString (λ v. record (record (nothing) { session_expiry_interval = p.session_expiry_interval }) { reason_string = v }) p.reason_string (user_bytes p.user_properties) (all_of_disconnect p) (λ x. refl) (λ x. refl) fits.reason_string g0 in
    step sections.Disconnect SessionExpiryInterval (λ v. record (nothing) { session_expiry_interval = v }) p.session_expiry_interval (optional ReasonString p.reason_string ++ (user_bytes p.user_properties)) (all_of_disconnect p) (λ x. refl) (λ x. refl) fits.session_expiry_interval g1

pub disconnect_back : (p : DisconnectProperties) → disconnect_of (all_of_disconnect p) ≡ p
disconnect_back p = refl

-- ---- CONNECT

abbrev method_of : Option Authentication → Option (List ℕ)
method_of None = None
method_of (Some a) = Some a.method

abbrev data_of : Option Authentication → Option (List ℕ)
data_of None = None
data_of (Some a) = a.authentication_data

authenticated : (set : Option (List ℕ) → Option (List ℕ) → Properties) (a : Option Authentication) (rest : List ℕ) (all : Properties) → ((m : List ℕ) → with_property (AuthenticationMethod m) (set None None) ≡ set (Some m) None) → ((m d : List ℕ) → with_property (AuthenticationData d) (set (Some m) None) ≡ set (Some m) (Some d)) → may_come sections.Connect (set None None) names.AuthenticationMethod ≡ true → ((m : List ℕ) → may_come sections.Connect (set (Some m) None) names.AuthenticationData ≡ true) → AuthenticationFits a → Gathered sections.Connect (set (method_of a) (data_of a)) rest all → Gathered sections.Connect (set None None) (authentication_bytes a ++ rest) all
authenticated set None rest all method binary may may' fits g = g
authenticated set (Some a) rest all method binary may may' fits g =
    let grouped : authentication_bytes (Some a) ++ rest ≡ property_bytes (AuthenticationMethod a.method) ++ (optional AuthenticationData a.authentication_data ++ rest) =
    append_assoc (property_bytes (AuthenticationMethod a.method)) (optional AuthenticationData a.authentication_data) rest in
    let behind = step sections.Connect AuthenticationData (λ v. set (Some a.method) v) a.authentication_data rest all (λ d. binary a.method d) (λ d. may' a.method) fits.1 g in
    subst (λ (b : List ℕ). Gathered sections.Connect (set None None) b all) (sym grouped)
    (one sections.Connect (set None None) (AuthenticationMethod a.method) (optional AuthenticationData a.authentication_data ++ rest) all may fits.0
    (subst (λ (q : Properties). Gathered sections.Connect q (optional AuthenticationData a.authentication_data ++ rest) all) (sym (method a.method)) behind))

abbrev pub all_of_connect : ConnectProperties → Properties
all_of_connect p = record (record (record (record (record (record (record (record (record (nothing) { session_expiry_interval = p.session_expiry_interval }) { authentication_method = (method_of p.authentication) }) { authentication_data = (data_of p.authentication) }) { request_problem_information = p.request_problem_information }) { request_response_information = p.request_response_information }) { receive_maximum = p.receive_maximum }) { topic_alias_maximum = p.topic_alias_maximum }) { user_properties = p.user_properties }) { maximum_packet_size = p.maximum_packet_size }

pub connect_gathered : (p : ConnectProperties) → ConnectFits p → Gathered sections.Connect nothing (connect_list p) (all_of_connect p)
connect_gathered p fits =
    let g0 = last sections.Connect (record (record (record (record (record (record (record (record (nothing) { session_expiry_interval = p.session_expiry_interval }) { authentication_method = (method_of p.authentication) }) { authentication_data = (data_of p.authentication) }) { request_problem_information = p.request_problem_information }) { request_response_information = p.request_response_information }) { receive_maximum = p.receive_maximum }) { topic_alias_maximum = p.topic_alias_maximum }) { user_properties = p.user_properties }) (optional MaximumPacketSize p.maximum_packet_size) (all_of_connect p) (step sections.Connect MaximumPacketSize (λ v. record (record (record (record (record (record (record (record (record (nothing) { session_expiry_interval = p.session_expiry_interval }) { authentication_method = (method_of p.authentication) }) { authentication_data = (data_of p.authentication) }) { request_problem_information = p.request_problem_information }) { request_response_information = p.request_response_information }) { receive_maximum = p.receive_maximum }) { topic_alias_maximum = p.topic_alias_maximum }) { user_properties = p.user_properties }) { maximum_packet_size = v }) p.maximum_packet_size [] (all_of_connect p) (λ x. refl) (λ x. refl) fits.maximum_packet_size (ended sections.Connect (all_of_connect p))) in
    let g1 = users sections.Connect (λ some. record (record (record (record (record (record (record (record (nothing) { session_expiry_interval = p.session_expiry_interval }) { authentication_method = (method_of p.authentication) }) { authentication_data = (data_of p.authentication) }) { request_problem_information = p.request_problem_information }) { request_response_information = p.request_response_information }) { receive_maximum = p.receive_maximum }) { topic_alias_maximum = p.topic_alias_maximum }) { user_properties = some }) [] p.user_properties (optional MaximumPacketSize p.maximum_packet_size) (all_of_connect p) (λ some pair. refl) (λ some. refl) fits.user_properties g0 in
    let g2 = step sections.Connect TopicAliasMaximum (λ v. record (record (record (record (record (record (record (nothing) { session_expiry_interval = p.session_expiry_interval }) { authentication_method = (method_of p.authentication) }) { authentication_data = (data_of p.authentication) }) { request_problem_information = p.request_problem_information }) { request_response_information = p.request_response_information }) { receive_maximum = p.receive_maximum }) { topic_alias_maximum = v }) p.topic_alias_maximum (user_bytes p.user_properties ++ optional MaximumPacketSize p.maximum_packet_size) (all_of_connect p) (λ x. refl) (λ x. refl) fits.topic_alias_maximum g1 in
    let g3 = step sections.Connect ReceiveMaximum (λ v. record (record (record (record (record (record (nothing) { session_expiry_interval = p.session_expiry_interval }) { authentication_method = (method_of p.authentication) }) { authentication_data = (data_of p.authentication) }) { request_problem_information = p.request_problem_information }) { request_response_information = p.request_response_information }) { receive_maximum = v }) p.receive_maximum (optional TopicAliasMaximum p.topic_alias_maximum ++ (user_bytes p.user_properties ++ optional MaximumPacketSize p.maximum_packet_size)) (all_of_connect p) (λ x. refl) (λ x. refl) fits.receive_maximum g2 in
    let g4 = step sections.Connect RequestResponseInformation (λ v. record (record (record (record (record (nothing) { session_expiry_interval = p.session_expiry_interval }) { authentication_method = (method_of p.authentication) }) { authentication_data = (data_of p.authentication) }) { request_problem_information = p.request_problem_information }) { request_response_information = v }) p.request_response_information (optional ReceiveMaximum p.receive_maximum ++ (optional TopicAliasMaximum p.topic_alias_maximum ++ (user_bytes p.user_properties ++ optional MaximumPacketSize p.maximum_packet_size))) (all_of_connect p) (λ x. refl) (λ x. refl) fits.request_response_information g3 in
    let g5 = step sections.Connect RequestProblemInformation (λ v. record (record (record (record (nothing) { session_expiry_interval = p.session_expiry_interval }) { authentication_method = (method_of p.authentication) }) { authentication_data = (data_of p.authentication) }) { request_problem_information = v }) p.request_problem_information (optional RequestResponseInformation p.request_response_information ++ (optional ReceiveMaximum p.receive_maximum ++ (optional TopicAliasMaximum p.topic_alias_maximum ++ (user_bytes p.user_properties ++ optional MaximumPacketSize p.maximum_packet_size)))) (all_of_connect p) (λ x. refl) (λ x. refl) fits.request_problem_information g4 in
    let g6 = authenticated (λ m d. record (record (record (nothing) { session_expiry_interval = p.session_expiry_interval }) { authentication_method = m }) { authentication_data = d }) p.authentication (optional RequestProblemInformation p.request_problem_information ++ (optional RequestResponseInformation p.request_response_information ++ (optional ReceiveMaximum p.receive_maximum ++ (optional TopicAliasMaximum p.topic_alias_maximum ++ (user_bytes p.user_properties ++ optional MaximumPacketSize p.maximum_packet_size))))) (all_of_connect p) (λ m. refl) (λ m d. refl) refl (λ m. refl) fits.authentication g5 in
    step sections.Connect SessionExpiryInterval (λ v. record (nothing) { session_expiry_interval = v }) p.session_expiry_interval (authentication_bytes p.authentication ++ (optional RequestProblemInformation p.request_problem_information ++ (optional RequestResponseInformation p.request_response_information ++ (optional ReceiveMaximum p.receive_maximum ++ (optional TopicAliasMaximum p.topic_alias_maximum ++ (user_bytes p.user_properties ++ optional MaximumPacketSize p.maximum_packet_size)))))) (all_of_connect p) (λ x. refl) (λ x. refl) fits.session_expiry_interval g6

authentication_back : (a : Option Authentication) → authentication_of (method_of a) (data_of a) ≡ Ok a
authentication_back None = refl
authentication_back (Some a) = refl

pub connect_back : (p : ConnectProperties) → connect_of (all_of_connect p) ≡ Ok p
connect_back p = ap (connect_from (all_of_connect p)) (authentication_back p.authentication)
