-- A message is handed on in no more bytes than it came in.
use Rattle.std.proofs.Common.{◌≡◌, ◌≢◌, ℕ, ◌+◌, ◌<◌, ◌≤◌, Bool, false, List, [], ◌∷◌, ◌++◌, length, Option, Some, None, inl, inr, refl, ap, subst, ◌∙◌, arith, length-append}
use Rattle.std.specs.List.{flat_map}
use Rattle.std.proofs.lemmas.List.Concat.{flat_map-append, flat_map-cons}
use Rattle.mqtt_packet.specs.declared.packet.Delivery.{Delivery}
use Rattle.mqtt_packet.specs.declared.packet.Delivery.TheVariants.{AtMostOnce, AtLeastOnce, ExactlyOnce}
use Rattle.mqtt_packet.specs.declared.packet.Packet.TheVariants as packets
use Rattle.mqtt_packet.specs.declared.packet.Publish.{Publish}
use Rattle.mqtt_packet.specs.declared.packet_properties.PublishProperties.{PublishProperties}
use Rattle.mqtt_fields.specs.Forms.{utf8_string, variable_byte_integer}
use Rattle.mqtt_fields.specs.Properties.{may_come, nothing, with_property}
use Rattle.mqtt_fields.specs.PropertyLists.{optional, publish_of, publish_list}
use Rattle.mqtt_fields.specs.Sections.{property_bytes, AddUp}
use Rattle.mqtt_wire.specs.Spelling.{SpellsPublish, Spells}
use Rattle.mqtt_wire.specs.Writing.{delivery_bytes, written, remaining_length}
use Rattle.mqtt_fields.proofs.PropertySizeLaws.{publish_length}
use Rattle.mqtt_wire.proofs.WritingLaws.{properties_size, publish_size, written_length}
use Rattle.conn_rules.specs.Expiring.{expiry_from, interval_left}
use Rattle.conn_rules.specs.Packets.{job}
use Rattle.conn_rules.specs.Publishing.{message_of}
use Rattle.conn_laws.specs.Sizes.{IsLight, most_publish_bytes}
use Rattle.conn_laws.proofs.Lengths.{no_more_bytes, one_byte_more, at_most_four, in_three_bytes}
use Rattle.mqtt_fields.proofs.Variable.{at_least_three}
use Rattle.mqtt_fields.specs.declared.property.Property.TheVariants.{MessageExpiryInterval, SubscriptionIdentifier}
use Rattle.std.proofs.lemmas.Bool.{cases_lt}

-- what a function is of
abbrev domain : {A B : Type 0} → (A → B) → Type 0
domain {A} {B} f = A

-- a property, and properties that add up
abbrev Property : Type 0
Property = domain property_bytes

abbrev Properties : Type 0
Properties = domain publish_of

-- of the properties of a PUBLISH, those that go with its message
abbrev going_on : PublishProperties → PublishProperties
going_on p = record {
  payload_format_indicator = p.payload_format_indicator;
  content_type = p.content_type;
  response_topic = p.response_topic;
  correlation_data = p.correlation_data;
  topic_alias = None;
  user_properties = p.user_properties;
}

-- a PUBLISH that has those alone, and this Message Expiry Interval and Subscription Identifier
abbrev bare : Option ℕ → Option ℕ → PublishProperties → Publish
bare interval subscription p = record {
  dup = false;
  retain = false;
  delivery = AtMostOnce;
  message_expiry_interval = interval;
  subscription_identifier = subscription;
  topic = [];
  properties = going_on p;
  payload = [];
}

-- the bytes of its properties
abbrev carried_list : Option ℕ → Option ℕ → PublishProperties → List ℕ
carried_list interval subscription p = publish_list (bare interval subscription p)

-- how many they are without an identifier
abbrev carried : Properties → ℕ
carried all = length (carried_list all.message_expiry_interval None (publish_of all))

-- one property more makes them longer by its own bytes at most
one_more : (property : Property) (all : Properties) → carried (with_property property all) ≤ length (property_bytes property) + carried all
one_more property all =
    grind (arith, publish_length (bare all.message_expiry_interval None (publish_of all)), publish_length (bare (with_property property all).message_expiry_interval None (publish_of (with_property property all))), flat_map-append, length-append)

-- properties that add up have as many bytes as those of them that go with a message
added : (section : domain may_come) (so_far : Properties) (list : List Property) (all : Properties) → AddUp section so_far list all
    → carried all ≤ length (flat_map property_bytes list) + carried so_far
added section so_far [] all adds = subst (λ (sum : Properties). carried sum ≤ 0 + carried so_far) adds (omega arith)
added section so_far (property ∷ others) all adds =
    omega (arith, one_more property so_far, added section (with_property property so_far) others all adds.2, ap length (flat_map-cons property_bytes property others), length-append (property_bytes property) (flat_map property_bytes others))

-- they have no more bytes than the properties with which it came
fewer : (publish : Publish) (body : List ℕ) (s : SpellsPublish publish body) → length (carried_list publish.message_expiry_interval None publish.properties) ≤ length (flat_map property_bytes s.spelled.0)
fewer publish body s =
    subst (λ (p : PublishProperties). length (carried_list publish.message_expiry_interval None p) ≤ length (flat_map property_bytes s.spelled.0)) s.properties_are
    (subst (λ (interval : Option ℕ). length (carried_list interval None (publish_of s.all)) ≤ length (flat_map property_bytes s.spelled.0)) s.expiry_is
    (let none : carried nothing ≡ 0 = refl in
    let all : carried s.all ≤ length (flat_map property_bytes s.spelled.0) + carried nothing = search (added, s.spelled.2) in
    omega (arith, none, all)))

-- how long a body is that was read
body_length : (publish : Publish) (body : List ℕ) (s : SpellsPublish publish body) → length body ≡ 2 + length publish.topic + length (delivery_bytes publish.delivery) + length (variable_byte_integer (length (flat_map property_bytes s.spelled.0))) + length (flat_map property_bytes s.spelled.0) + length publish.payload
body_length publish body s =
    omega (arith, ap length s.parts, length-append (utf8_string publish.topic) (delivery_bytes publish.delivery ++ (s.section ++ publish.payload)), length-append (delivery_bytes publish.delivery) (s.section ++ publish.payload), length-append s.section publish.payload, ap length s.spelled.1, properties_size (flat_map property_bytes s.spelled.0))

-- an identifier has at most five bytes
identifier_length : (subscription : Option ℕ) → length (optional SubscriptionIdentifier subscription) ≤ 5
identifier_length None = omega arith
identifier_length (Some number) = omega (arith, at_most_four number)

five_more : (interval subscription : Option ℕ) (p : PublishProperties) → length (carried_list interval subscription p) ≤ length (carried_list interval None p) + 5
five_more interval subscription p = omega (arith, publish_length (bare interval subscription p), publish_length (bare interval None p), identifier_length subscription)

-- an interval has four bytes, whatever is left of it
interval_length : (came now : ℕ) (interval : Option ℕ) → length (optional MessageExpiryInterval (interval_left now (expiry_from came interval))) ≡ length (optional MessageExpiryInterval interval)
interval_length came now None = refl
interval_length came now (Some seconds) = refl

left_length : (came now : ℕ) (interval subscription : Option ℕ) (p : PublishProperties) → length (carried_list (interval_left now (expiry_from came interval)) subscription p) ≡ length (carried_list interval subscription p)
left_length came now interval subscription p =
    omega (arith, publish_length (bare (interval_left now (expiry_from came interval)) subscription p), publish_length (bare interval subscription p), interval_length came now interval)

-- how long the one is that is sent
sent_length : (publish : Publish) (came now : ℕ) (dup : Bool) (subscription : Option ℕ) (identifier : ℕ) → remaining_length (job now dup (message_of came publish) subscription identifier)
    ≡ 4 + length publish.topic + length (variable_byte_integer (length (carried_list publish.message_expiry_interval subscription publish.properties)))
    + length (carried_list publish.message_expiry_interval subscription publish.properties) + length publish.payload
unfolding remaining_length
sent_length publish came now dup subscription identifier =
    let left : Option ℕ = interval_left now (expiry_from came publish.message_expiry_interval) in
    let list : List ℕ = carried_list left subscription publish.properties in
    let size = publish_size (record {
      dup = dup;
      retain = false;
      delivery = AtLeastOnce identifier;
      message_expiry_interval = left;
      subscription_identifier = subscription;
      topic = publish.topic;
      properties = going_on publish.properties;
      payload = publish.payload;
    }) in
    let as_left : remaining_length (job now dup (message_of came publish) subscription identifier)
    ≡ 4 + length publish.topic + length (variable_byte_integer (length list)) + length list + length publish.payload = omega (arith, size, properties_size list) in
    as_left
    ∙ ap (λ (n : ℕ). 4 + length publish.topic + length (variable_byte_integer n) + n + length publish.payload) (left_length came now publish.message_expiry_interval subscription publish.properties)

-- a Packet Identifier has two bytes
identified : (delivery : Delivery) → delivery ≢ AtMostOnce → length (delivery_bytes delivery) ≡ 2
identified AtMostOnce some = absurd (some refl)
identified (AtLeastOnce identifier) some = refl
identified (ExactlyOnce identifier) some = refl

-- a whole packet that was read
whole_length : (publish : Publish) (bytes : List ℕ) (s : Spells (packets.Publish publish) bytes) → length bytes ≡ 1 + length (variable_byte_integer (length s.body)) + length s.body
whole_length publish bytes s = omega (arith, ap length s.parts, length-append (variable_byte_integer (length s.body)) s.body)

-- what is sent without one has at most two bytes more in its body: those of the Packet Identifier
grown : (publish : Publish) (bytes : List ℕ) (came now : ℕ) (dup : Bool) (identifier : ℕ) (s : Spells (packets.Publish publish) bytes) → remaining_length (job now dup (message_of came publish) None identifier) + length (delivery_bytes publish.delivery) ≤ 2 + length s.body
grown publish bytes came now dup identifier s =
    let list : List ℕ = flat_map property_bytes s.spelled.spelled.0 in
    let less = fewer publish s.body s.spelled in
    let body = body_length publish s.body s.spelled in
    let whole = whole_length publish bytes s in
    let size = s.size in
    let small : length list < 2097152 = omega (arith, body, whole, size) in
    omega (arith, sent_length publish came now dup None identifier, body, less, no_more_bytes (length (carried_list publish.message_expiry_interval None publish.properties)) (length list) less small)

pub no_longer : (publish : Publish) (bytes : List ℕ) (came now : ℕ) (dup : Bool) (identifier : ℕ) → Spells (packets.Publish publish) bytes → publish.delivery ≢ AtMostOnce
    → length (written (job now dup (message_of came publish) None identifier)) ≤ length bytes
no_longer publish bytes came now dup identifier s some =
    let whole = whole_length publish bytes s in
    let size = s.size in
    let less : remaining_length (job now dup (message_of came publish) None identifier) ≤ length s.body = omega (arith, grown publish bytes came now dup identifier s, identified publish.delivery some) in
    let small : length s.body < 2097152 = omega (arith, whole, size) in
    omega (arith, written_length (job now dup (message_of came publish) None identifier), no_more_bytes (remaining_length (job now dup (message_of came publish) None identifier)) (length s.body) less small, whole)

-- with one it has at most eight bytes more: six of the identifier, and two of the Packet Identifier
grown_by : (publish : Publish) (bytes : List ℕ) (came now : ℕ) (dup : Bool) (subscription : Option ℕ) (identifier : ℕ) (s : Spells (packets.Publish publish) bytes) → remaining_length (job now dup (message_of came publish) subscription identifier) + length (delivery_bytes publish.delivery) ≤ 8 + length s.body
grown_by publish bytes came now dup subscription identifier s =
    let plain : List ℕ = carried_list publish.message_expiry_interval None publish.properties in
    let with_it : List ℕ = carried_list publish.message_expiry_interval subscription publish.properties in
    let less = fewer publish s.body s.spelled in
    let body = body_length publish s.body s.spelled in
    let whole = whole_length publish bytes s in
    let size = s.size in
    let few : length plain + 5 < 2097152 = omega (arith, body, whole, size, less) in
    let more = five_more publish.message_expiry_interval subscription publish.properties in
    let longer : length (variable_byte_integer (length with_it)) ≤ length (variable_byte_integer (length plain + 5)) = no_more_bytes (length with_it) (length plain + 5) more few in
    omega (arith, grown publish bytes came now dup identifier s, sent_length publish came now dup None identifier, sent_length publish came now dup subscription identifier, more, longer, one_byte_more (length plain) few)

pub light : (publish : Publish) (bytes : List ℕ) (came : ℕ) → Spells (packets.Publish publish) bytes → IsLight (message_of came publish)
light publish bytes came s now dup subscription identifier =
    let whole = whole_length publish bytes s in
    let size = s.size in
    let more = grown_by publish bytes came now dup subscription identifier s in
    let small : remaining_length (job now dup (message_of came publish) subscription identifier) < 2097152 = omega (arith, more, whole, size) in
    omega (arith, in_three_bytes (job now dup (message_of came publish) subscription identifier) small, more, whole, size)

pub taken : (publish : Publish) (bytes : List ℕ) (came now : ℕ) (dup : Bool) (subscription : Option ℕ) (identifier : ℕ) → Spells (packets.Publish publish) bytes → publish.delivery ≢ AtMostOnce
    → length (written (job now dup (message_of came publish) subscription identifier)) ≤ most_publish_bytes
taken publish bytes came now dup subscription identifier s some =
    let whole = whole_length publish bytes s in
    let size = s.size in
    let more : remaining_length (job now dup (message_of came publish) subscription identifier) ≤ 6 + length s.body = omega (arith, grown_by publish bytes came now dup subscription identifier s, identified publish.delivery some) in
    let small : remaining_length (job now dup (message_of came publish) subscription identifier) < 2097152 = omega (arith, more, whole, size) in
    elim (cases_lt (length s.body) 16384) [
      | inl few ↦ omega (arith, in_three_bytes (job now dup (message_of came publish) subscription identifier) small, more)
      | inr many ↦ omega (arith, in_three_bytes (job now dup (message_of came publish) subscription identifier) small, more, whole, size, at_least_three (length s.body) many)
    ]
